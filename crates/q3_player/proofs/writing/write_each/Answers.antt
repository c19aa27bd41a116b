use Rattle.std.proofs.Common.{◌≡◌, ◌∙◌, ◌++◌, Bool, List, refl, append_assoc}
use Rattle.std.specs.List.{flat_map}
use Rattle.std.proofs.lemmas.Result.{err_from_is_err_and}
use Rattle.std.proofs.lemmas.List.{append-nil}
use Rattle.q3_fields.specs.declared.kind.Kind.{Kind}
use Rattle.q3_fields.specs.declared.kind.Kind.TheVariants.{Unsigned, Signed}
use Rattle.q3_fields.specs.Places.{Change}
use Rattle.q3_player.specs.State.{patterns_of}
use Rattle.q3_player.specs.declared.state.PlayerState.{PlayerState}
use Rattle.q3_player.specs.Arrays.{changes, arrays_changed, player_changes}
use Rattle.q3_player.specs.Delta.{array_bits}
use Rattle.q3_player.proofs.writing.write_each.Goals as goal

-- the text of each array
abbrev stats : PlayerState → PlayerState → List (List Bool) → List Bool
stats from to ws = array_bits ws (Signed 16) (changes (patterns_of from.stats) (patterns_of to.stats))

abbrev persistant : PlayerState → PlayerState → List (List Bool) → List Bool
persistant from to ws = array_bits ws (Signed 16) (changes (patterns_of from.persistant) (patterns_of to.persistant))

abbrev ammo : PlayerState → PlayerState → List (List Bool) → List Bool
ammo from to ws = array_bits ws (Signed 16) (changes (patterns_of from.ammo) (patterns_of to.ammo))

abbrev powerups : PlayerState → PlayerState → List (List Bool) → List Bool
powerups from to ws = array_bits ws (Unsigned 32) (changes from.powerups to.powerups)

-- all four
four : (from to : PlayerState) (ws : List (List Bool)) → flat_map (λ (array : Kind × List Change). array_bits ws array.0 array.1) (player_changes from to)
    ≡ stats from to ws ++ (persistant from to ws ++ (ammo from to ws ++ powerups from to ws))
unfolding arrays_changed
four from to ws = simp append-nil

pub returns-in_err-write_shorts : goal.returns-in_err-write_shorts
returns-in_err-write_shorts c =
    let p = err_from_is_err_and c.from_residual.result c.from_residual.ensures.1 in
    rw (p.1, p.2) (c.texts_are_written.ensures.early _ _ _ _ _ _ (four c.args.from.now c.args.to.now c.args.w.now.words) c.in_err-write_shorts.ensures)

pub returns-in_err-write_shorts-2 : goal.returns-in_err-write_shorts-2
returns-in_err-write_shorts-2 c =
    let from = c.args.from.now in
    let to = c.args.to.now in
    let ws = c.args.w.now.words in
    let law = c.texts_are_written.ensures in
    let p = err_from_is_err_and c.from_residual-in_err-write_shorts-2.result c.from_residual-in_err-write_shorts-2.ensures.1 in
    let two = law.then _ _ _ (stats from to ws) (stats from to ws ++ persistant from to ws) (persistant from to) _ refl c.in_ok-write_shorts.ensures c.in_err-write_shorts-2.ensures in
    let others = ammo from to ws ++ powerups from to ws in
    let whole : flat_map (λ (array : Kind × List Change). array_bits ws array.0 array.1) (player_changes from to) ≡ (stats from to ws ++ persistant from to ws) ++ others = four from to ws ∙ simp append_assoc in
    rw (p.1, p.2) (law.early _ _ _ others _ _ whole two)

pub returns-in_err-write_shorts-3 : goal.returns-in_err-write_shorts-3
returns-in_err-write_shorts-3 c =
    let from = c.args.from.now in
    let to = c.args.to.now in
    let ws = c.args.w.now.words in
    let law = c.texts_are_written.ensures in
    let p = err_from_is_err_and c.from_residual-in_err-write_shorts-3.result c.from_residual-in_err-write_shorts-3.ensures.1 in
    let two = law.then _ _ _ (stats from to ws) (stats from to ws ++ persistant from to ws) (persistant from to) _ refl c.in_ok-write_shorts.ensures c.in_ok-write_shorts-2.ensures in
    let three = law.then _ _ _ (stats from to ws ++ persistant from to ws) (stats from to ws ++ persistant from to ws ++ ammo from to ws) (ammo from to) _ refl two c.in_err-write_shorts-3.ensures in
    let whole : flat_map (λ (array : Kind × List Change). array_bits ws array.0 array.1) (player_changes from to) ≡ (stats from to ws ++ persistant from to ws ++ ammo from to ws) ++ powerups from to ws = four from to ws ∙ simp append_assoc in
    rw (p.1, p.2) (law.early _ _ _ (powerups from to ws) _ _ whole three)

pub returns : goal.returns
returns c =
    let from = c.args.from.now in
    let to = c.args.to.now in
    let ws = c.args.w.now.words in
    let law = c.texts_are_written.ensures in
    let two = law.then _ _ _ (stats from to ws) (stats from to ws ++ persistant from to ws) (persistant from to) _ refl c.in_ok-write_shorts.ensures c.in_ok-write_shorts-2.ensures in
    let three = law.then _ _ _ (stats from to ws ++ persistant from to ws) (stats from to ws ++ persistant from to ws ++ ammo from to ws) (ammo from to) _ refl two c.in_ok-write_shorts-3.ensures in
    let whole : flat_map (λ (array : Kind × List Change). array_bits ws array.0 array.1) (player_changes from to) ≡ (stats from to ws ++ persistant from to ws ++ ammo from to ws) ++ powerups from to ws = four from to ws ∙ simp append_assoc in
    law.then _ _ _ (stats from to ws ++ persistant from to ws ++ ammo from to ws) _ (powerups from to) _ whole three c.write_array.ensures
