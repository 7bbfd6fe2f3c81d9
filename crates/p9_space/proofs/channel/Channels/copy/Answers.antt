use Rattle.std.proofs.Common.{ℕ, ap₂, ◌∙◌}
use Rattle.p9_table.proofs.Tables.{options-same}
use Rattle.p9_space.proofs.channel.Channels.copy.Goals as goal

pub returns : goal.returns
returns g c =
    ap₂ (λ trail rows. record { trail = trail; rows = rows }) c.in_ok-copy.ensures
    (options-same ℕ _ (λ x y same. same) (λ y same. same) (λ x same. same)
    c.self.inside.rows.items c.in_ok-clone.field-0.items c.in_ok-clone.ensures.cases.0)
    ∙ c.self.view_is
