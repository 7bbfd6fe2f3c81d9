-- Frames one after another are told apart by their sizes.
use Rattle.std.proofs.Common.{◌≡◌, ◌∙◌, ℕ, ◌+◌, ◌<◌, ◌≤◌, ◌^◌, List, ◌++◌, Some, ap, arith, drop, length, refl, sym, take}
use Rattle.std.proofs.Math.Seq.{drop-append_seam, take-append_seam}
use Rattle.byteorder.specs.Endian.{little_number}
use Rattle.byteorder.specs.Numbers.{little_from-append, little_number-reads_back}
use Rattle.p9_wire.specs.Fields.{number}
use Rattle.p9_wire.specs.Message.{RMessage, Rread}
use Rattle.p9_wire.specs.Reading.{r_message_of}
use Rattle.p9_wire.specs.Reply.{r_body, r_spelling, r_type}
use Rattle.p9_wire.proofs.Lengths.{length-frame, length-r_body}
use Rattle.p9_wire.proofs.RGrammar.{r-decides}
use Rattle.p9_client.specs.Frame.{HasSize}

-- two frames that begin the same bytes are one
pub record Same (one other behind_one behind_other : List ℕ) : Type 0 where
  pub frames : one ≡ other
  pub behind : behind_one ≡ behind_other

pub same-frames : (one other xs ys : List ℕ) → HasSize one → HasSize other → one ++ xs ≡ other ++ ys
    → Same one other xs ys
same-frames one other xs ys first second same =
    let sizes : little_number 4 one ≡ little_number 4 other =
    sym (little_from-append 4 one xs (omega (arith, first.0))) ∙ ap (little_number 4) same
    ∙ little_from-append 4 other ys (omega (arith, second.0)) in
    let long : length one ≡ length other = sym first.1 ∙ sizes ∙ second.1 in
    record {
      frames = sym (take-append_seam one xs) ∙ ap (take (length one)) same
          ∙ ap (λ (n : ℕ). take n (other ++ ys)) long ∙ take-append_seam other ys;
      behind = sym (drop-append_seam one xs) ∙ ap (drop (length one)) same
          ∙ ap (λ (n : ℕ). drop n (other ++ ys)) long ∙ drop-append_seam other ys;
    }

-- the spelling of a short reply has its size
pub spelling-size : (tag : ℕ) (bytes : List ℕ) → 11 + length bytes < 2 ^ 32
    → HasSize (r_spelling tag (Rread bytes))
unfolding r_spelling number
spelling-size tag bytes short =
    let body : List ℕ = r_body (Rread bytes) in
    let long : length (r_spelling tag (Rread bytes)) ≡ 7 + length body = length-frame 117 tag body in (
      omega (arith, long),
      little_number-reads_back 4 (7 + length body) (number 1 117 ++ number 2 tag ++ body)
          (omega (arith, length-r_body (Rread bytes), short)) ∙ sym long,
    )

-- and is read as the reply
pub spelling-read : (tag : ℕ) (bytes : List ℕ) → 11 + length bytes < 2 ^ 32 → tag < 2 ^ 16
    → r_message_of (r_spelling tag (Rread bytes)) ≡ Some (tag, Rread bytes)
spelling-read tag bytes short fits =
    r-decides.complete (r_spelling tag (Rread bytes)) tag (Rread bytes) record {
      whole = refl;
      numbers = tt;
      fits = short;
      tag_fits = fits;
    }
