-- A reply of the exporter to a read of a file, as it comes to a client.
use Rattle.std.proofs.Common.{◌≡◌, ◌∙◌, ℕ, ◌+◌, ◌-◌, ◌<◌, ◌^◌, List, ◌++◌, Some, ap, arith, drop, length, min, subst, sym}
use Rattle.std.proofs.Common.{Bool, false, refl, true}
use Rattle.std.proofs.lemmas.Bool.Decides.{nat_tests}
use Rattle.std.proofs.lemmas.List.{length-take}
use Rattle.std.specs.Prelude.{if◌then◌else◌, nat_lt}
use Rattle.p9_wire.specs.Message.{RMessage, Rread, TMessage, Tread}
use Rattle.p9_wire.specs.Reading.{r_message_of}
use Rattle.p9_wire.specs.Reply.{r_spelling}
use Rattle.p9_wire.specs.Spelling.{TNumbersFit}
use Rattle.p9_step.specs.State.{State}
use Rattle.p9_client.specs.Frame.{HasSize}
use Rattle.p9_client.specs.Reply.{IsReply}
use Rattle.p9_client.specs.Session.{next_tag}
use Rattle.p9_client_laws.specs.Served.{HasFile, IsMsize, request_step}
use Rattle.p9_client_laws.proofs.Frames.{same-frames, spelling-read, spelling-size}
use Rattle.p9_client_laws.proofs.Steps.{bytes_of, step-file, step-reply}

-- the frame is the reply to a read of a file, and what is behind it is left
pub record HasCome (state : State) (name msize fid : ℕ) (bytes : List ℕ) (tag clock offset count : ℕ)
    (request : TMessage) (frame more ys : List ℕ) : Type 0 where
  pub is : IsReply frame tag (Rread (bytes_of msize offset count bytes))
  pub behind : more ≡ ys
  pub file : HasFile (request_step state name tag clock request).state name msize fid bytes

pub came : (state : State) (name msize fid : ℕ) (bytes : List ℕ) (tag clock offset count : ℕ)
    (request : TMessage) (frame more ys : List ℕ) → HasFile state name msize fid bytes
    → IsMsize msize → tag < 2 ^ 16 → TNumbersFit request → request ≡ Tread fid offset count
    → HasSize frame → (request_step state name tag clock request).reply ++ more ≡ frame ++ ys
    → HasCome state name msize fid bytes tag clock offset count request frame more ys
came state name msize fid bytes tag clock offset count request frame more ys file room tag_fits
    numbers is size left =
    let given : List ℕ = bytes_of msize offset count bytes in
    let numbers' : TNumbersFit (Tread fid offset count) =
    subst (λ (r : TMessage). TNumbersFit r) is numbers in
    let reply : (request_step state name tag clock request).reply ≡ r_spelling tag (Rread given) =
    ap (λ (r : TMessage). (request_step state name tag clock r).reply) is
    ∙ step-reply state name msize fid bytes file room tag clock offset count tag_fits numbers' in
    let short : 11 + length given < 2 ^ 32 =
    omega (arith, length-take (min count (msize - 24)) (drop offset bytes), room.within) in
    let same = same-frames (r_spelling tag (Rread given)) frame more ys
    (spelling-size tag given short) size
    (ap (λ (zs : List ℕ). zs ++ more) (sym reply) ∙ left) in
    record {
      is = ap r_message_of (sym same.frames) ∙ spelling-read tag given short tag_fits;
      behind = same.behind;
      file = subst (λ (r : TMessage). HasFile (request_step state name tag clock r).state name msize fid
          bytes) (sym is)
          (step-file state name msize fid bytes file room tag clock offset count tag_fits numbers');
    }

-- the next tag is one
pub next-fits : (tag : ℕ) → tag < 2 ^ 16 → next_tag tag < 2 ^ 16
next-fits tag fits = go (nat_lt tag 65534) refl
  where
    go : (test : Bool) → nat_lt tag 65534 ≡ test → (if test then tag + 1 else 0) < 2 ^ 16
    go true is = let below : tag < 65534 = grind (arith, nat_tests, is) in omega (arith, below)
    go false is = omega arith
