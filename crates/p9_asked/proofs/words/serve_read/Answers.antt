use Rattle.std.proofs.Common.{◌∙◌, codes, refl, sym}
use Rattle.std.specs.Str.{bytes_eq}
use Rattle.std.specs.String.{string_bytes}
use Rattle.clap.specs.Words.{found_of}
use Rattle.clap.proofs.WalkLemmas.{first_value-rows, list_any-map}
use Rattle.p9_asked.proofs.Asking.{no_address, no_rounds, options_read, with_end}
use Rattle.p9_asked.proofs.words.serve_read.Goals as goal

pub returns-then-has_end : goal.returns-then-has_end
returns-then-has_end c =
    with_end _ _ _ _ refl
    (sym (list_any-map (λ word. bytes_eq word (codes "--")) string_bytes c.args.words.now)
    ∙ sym c.has_end.ensures ∙ c.if-has_end.true)

pub returns-in_err-address : goal.returns-in_err-address
returns-in_err-address c =
    no_address _ _ _ _ _ c.from_residual.ensures
    (c.get_str.ensures ∙ first_value-rows (found_of c.args.options.now) (codes "address"))
    c.in_err-address.ensures

pub returns-in_err-rounds : goal.returns-in_err-rounds
returns-in_err-rounds c =
    no_rounds _ _ _ _ _ c.from_residual-in_err-rounds.ensures
    (c.get_str-2.ensures ∙ first_value-rows (found_of c.args.options.now) (codes "rounds"))
    (sym c.in_err-rounds.ensures)

pub returns : goal.returns
returns c =
    options_read _ _ _ _ _ _ _
    (sym (list_any-map (λ word. bytes_eq word (codes "--")) string_bytes c.args.words.now)
    ∙ sym c.has_end.ensures ∙ c.if-has_end.false)
    (c.get_str.ensures ∙ first_value-rows (found_of c.args.options.now) (codes "address"))
    c.in_ok-address.ensures
    (c.get_str-2.ensures ∙ first_value-rows (found_of c.args.options.now) (codes "rounds"))
    (sym c.in_ok-rounds.ensures)
