use Rattle.std.proofs.Common.{◌≡◌, ◌≤◌, ◌*◌, ◌-◌, length, take, drop, min, ltb, false, refl, arith, rules}
use Rattle.std.proofs.lemmas.Bool.{le-ltb}
use Rattle.std.proofs.lemmas.List.{take_rest, take_min}
use Rattle.q3_config.proofs.Texts.{piece_inside}
use Rattle.q3_config.proofs.writing.part_at.Goals as goal

pub overflow_mul-rest : goal.overflow_mul-rest
overflow_mul-rest c = let lt = piece_inside (length c.args.text.now) c.args.k (omega arith) c.requires in omega arith

pub slice_bounds-rest-count : goal.slice_bounds-rest-count
slice_bounds-rest-count c = let lt = piece_inside (length c.args.text.now) c.args.k (omega arith) c.requires in omega arith

pub slice_bounds-rest-start : goal.slice_bounds-rest-start
slice_bounds-rest-start c = let le : 999 * c.args.k ≤ length c.args.text.now = slice_bounds-rest-count c in search rules

pub returns : goal.returns
returns c =
    let text = c.args.text.now in
    let rest = drop (999 * c.args.k) text in
    let long : ltb (length text) 1000 ≡ false = le-ltb _ _ (omega arith) in
    let whole : take (length text - 999 * c.args.k) rest ≡ rest = take_rest text (999 * c.args.k) in
    let least : c.min.result ≡ min 999 (length rest) = rw (← whole) (omega (arith, c.min.ensures)) in
    rw (long, whole, least, take_min 999 rest) refl
