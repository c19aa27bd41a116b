use Rattle.std.proofs.Common.{◌≤◌, sym, arith}
use Rattle.q3_savestate.proofs.Ranges.{in_range}
use Rattle.q3_savestate.proofs.Starts.{is_text}
use Rattle.q3_savestate.proofs.state.read_start.Goals as goal

pub text_of-requires : goal.text_of-requires
text_of-requires c =
    let few : c.in_ok-length.length ≤ 1023 = (in_range 2 0 1023 c.long-5.new.self c.short.new.self c.in_ok-length.length (sym c.in_ok-length.ensures)).1 in
    is_text c.from.result c.short.new.self c.text.new.self c.in_ok-text.text.now (omega (arith, c.from.ensures)) c.in_ok-text.ensures
