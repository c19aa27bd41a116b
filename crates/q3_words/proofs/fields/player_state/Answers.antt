use Rattle.std.proofs.Common.{◌≡◌, ◌<◌, length, arith}
use Rattle.std.proofs.lemmas.Bool.Decides.{nat_tests}
use Rattle.q3_words.proofs.PlayerParts.{is_refused, is_read}
use Rattle.q3_words.proofs.fields.player_state.Goals as goal

pub returns-then-not-is_empty : goal.returns-then-not-is_empty
returns-then-not-is_empty c =
    let some : 0 < length c.take_fields-left-5.result.now = grind (arith, nat_tests) in
    is_refused c.take_fields-left-5.result.now (record {
      at_stats = c.take_fields-left.ensures.left;
      at_persistant = c.take_fields-left-2.ensures.left;
      at_ammo = c.take_fields-left-3.ensures.left;
      at_powerups = c.take_fields-left-4.ensures.left;
      at_others = c.take_fields-left-5.ensures.left;
    }) some

pub returns : goal.returns
returns c =
    let none : length c.take_fields-left-5.result.now ≡ 0 = grind (arith, nat_tests) in
    rw (c.shorts.ensures, c.shorts-2.ensures, c.shorts-3.ensures, c.take_fields-left.ensures.values, c.take_fields-left-2.ensures.values, c.take_fields-left-3.ensures.values, c.take_fields-left-4.ensures.values, c.take_fields-left-5.ensures.values)
    (is_read c.take_fields-left-5.result.now (record {
      at_stats = c.take_fields-left.ensures.left;
      at_persistant = c.take_fields-left-2.ensures.left;
      at_ammo = c.take_fields-left-3.ensures.left;
      at_powerups = c.take_fields-left-4.ensures.left;
      at_others = c.take_fields-left-5.ensures.left;
    }) none)
