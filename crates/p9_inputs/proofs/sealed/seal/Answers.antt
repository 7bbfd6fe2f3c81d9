use Rattle.std.proofs.Common.{ap, inl, refl, string_bytes, ◌∙◌, ◌++◌}
use Rattle.p9_inputs.proofs.sealed.seal.Goals as goal

pub returns-in_ok-extend_from_slice-in-Ok-clause-ok :
    goal.returns-in_ok-extend_from_slice-in-Ok-clause-ok
returns-in_ok-extend_from_slice-in-Ok-clause-ok g c = record {
  wishes = c.wishes_in.result;
  wished = c.wishes_in.ensures;
  ends = inl (record {
    done = refl;
    text = string_bytes c.in-Ok.text;
    sealed = c.in-Ok.ensures.ok;
    printed = c.in_ok-extend_from_slice-in-Ok.ensures.items
        ∙ ap (λ text. c.args.out.now.items ++ text) c.as_bytes.ensures.value;
    silent = refl;
  });
}
