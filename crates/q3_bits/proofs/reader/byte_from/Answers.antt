use Rattle.std.proofs.Common.{◌<◌, ◌≤◌, length, refl, arith}
use Rattle.q3_bits.specs.Unread.{bits_ahead}
use Rattle.q3_bits.proofs.CodeText.{byte_at-is}
use Rattle.q3_bits.proofs.reader.byte_from.Goals as goal

pub returns-then-has-clause-byte : goal.returns-then-has-clause-byte
returns-then-has-clause-byte c =
    let left = bits_ahead c.ready-ready.result in
    let long = c.entry-entry.result.length in
    let some : long < 64 = c.if-entry-lt-UNINDEXED.true in
    let enough : long ≤ length left = omega (arith, c.if-has.ensures.left.0 (c.if-has.ensures.gathered.0 refl), c.from-short.ensures) in
    let found = c.entry-entry.ensures.found left c.window-window.ensures.bits some enough in
    rw (← c.ready-ready.ensures.bits, byte_at-is, found, c.skip.ensures, c.from-short.ensures) refl

pub returns-in-Some-clause-byte : goal.returns-in-Some-clause-byte
returns-in-Some-clause-byte c =
    let found = c.in-Some.ensures.found (bits_ahead c.ready-ready.result) c.left-left.ensures.left c.window-window.ensures.bits in
    rw (← c.ready-ready.ensures.bits, byte_at-is, ← found, c.skip-in-Some.ensures, c.from.ensures) refl

pub returns-in-None-clause-byte : goal.returns-in-None-clause-byte
returns-in-None-clause-byte c =
    let left = bits_ahead c.ready-ready.result in
    let none = c.in-None.ensures.found left c.left-left.ensures.left c.window-window.ensures.bits in
    let begins = c.if-begins_with.ensures left c.left-left.ensures.left c.window-window.ensures.bits in
    rw (← c.ready-ready.ensures.bits, byte_at-is, ← none, ← begins) refl

pub returns-in-None-2-clause-byte : goal.returns-in-None-2-clause-byte
returns-in-None-2-clause-byte c =
    let left = bits_ahead c.ready-ready.result in
    let none = c.in-None-2.ensures.found left c.left-left.ensures.left c.window-window.ensures.bits in
    let begins = c.if-begins_with.ensures left c.left-left.ensures.left c.window-window.ensures.bits in
    rw (← c.ready-ready.ensures.bits, byte_at-is, ← none, ← begins) refl
