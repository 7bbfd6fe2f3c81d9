use Rattle.std.proofs.Common.{◌∙◌, ◌≤◌, arith, length, length-take-le, sym}
use Rattle.p9_client.proofs.Parts.{read-both}
use Rattle.p9_client.proofs.Sizes.{size-kept}
use Rattle.p9_client.proofs.exchange.receive_frame.Goals as goal

pub returns-clause-whole : goal.returns-clause-whole
returns-clause-whole g c =
    let size = c.read_u32-size.result in
    let frame = c.receive_between-2.new.bytes in
    let within : size ≤ length frame =
    omega (arith, c.if-size-most.false, c.requires.room, c.receive_between-2.auto.bytes, c.receive_between.auto.bytes) in (
      c.if-size-most.false,
      (
        omega (arith, c.if-size-lt-HEADER.false, length-take-le size frame within),
        size-kept size _ frame c.if-size-lt-HEADER.false within
            (omega (arith, c.requires, c.receive_between.auto.bytes)) c.receive_between-2.ensures.kept
            ∙ sym c.read_u32-size.ensures ∙ sym (length-take-le size frame within),
      ),
      read-both _ _ _ 7 size _ frame c.if-size-lt-HEADER.false c.receive_between-2.ensures.kept
          c.in_ok-receive_between.ensures.ok c.in_ok-receive_between-2.ensures.ok,
    )
