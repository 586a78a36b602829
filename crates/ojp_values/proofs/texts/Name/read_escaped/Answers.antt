use Rattle.std.proofs.Common.{[], length, sym, refl, arith}
use Rattle.std.proofs.lemmas.Bool.{eqb-true}
use Rattle.ojp_values.proofs.Escapes.{escaped_push, first_byte_shorter, no_room, no_byte, read_all, spelled_plain}
use Rattle.ojp_values.proofs.texts.Name.read_escaped.Goals as goal

pub bytes-init : goal.bytes-init
bytes-init c = rw c.new-name.ensures refl

pub returns-then-is_full : goal.returns-then-is_full
returns-then-is_full c =
    λ value is spelled. no_room c.bytes.name.items c.bytes.rest.now c.args.text.now value c.bytes.invariant
    (omega (arith, eqb-true _ _ (sym c.if-is_full.ensures.value))) c.bytes-test.ensures is spelled

pub returns-in_err-byte : goal.returns-in_err-byte
returns-in_err-byte c =
    rw c.from_residual.ensures
    (λ value is spelled. no_byte c.bytes.name.items c.bytes.rest.now c.args.text.now value c.bytes.invariant
    (sym c.in_err-byte.ensures) c.bytes-test.ensures spelled)

pub bytes-smaller : goal.bytes-smaller
bytes-smaller c = first_byte_shorter c.bytes.rest.now c.in_ok-byte.byte c.in_ok-byte.after.now (sym c.in_ok-byte.ensures)

pub bytes-preserved : goal.bytes-preserved
bytes-preserved c =
    rw c.push.ensures.items
    (escaped_push c.bytes.name.items c.in_ok-byte.byte c.bytes.rest.now c.in_ok-byte.after.now c.args.text.now
    (sym c.in_ok-byte.ensures) c.bytes.invariant)

pub returns : goal.returns
returns c =
    read_all c.bytes.name.items c.bytes.rest.now c.args.text.now c.from_bytes-2.result c.bytes.invariant c.bytes-test.ensures
    (rw (sym c.as_slice.ensures.value) c.from_bytes-2.ensures.exact) (rw (sym c.as_slice.ensures.value) c.from_bytes-2.ensures.value)

pub returns-then-plain_len-text : goal.returns-then-plain_len-text
returns-then-plain_len-text c =
    read_all c.args.text.now [] c.args.text.now c.from_bytes.result
    (spelled_plain c.args.text.now c.plain_len.result (length c.args.text.now) c.plain_len.ensures.value c.if-plain_len-text.true refl)
    refl c.from_bytes.ensures.exact c.from_bytes.ensures.value
