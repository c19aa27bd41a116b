use Rattle.std.proofs.Common.{◌≡◌, ℕ, Result, Ok, Err, IfOk, sym, subst}
use Rattle.q3_fields.specs.Kinds.{Layout}
use Rattle.q3_frames.specs.Frames.{FramesState, no_frames}
use Rattle.q3_slot.specs.Slots.{HoldLists}
use Rattle.q3_slot.specs.Laws.{NothingIsListed}
use Rattle.q3_server.proofs.server.empty_frames.Goals as goal

-- where frames were made, nothing is listed
new_lists : {E : Type 0} → NothingIsListed → (table : Layout) (slots ring : ℕ) (made : Result FramesState E) → IfOk made (λ frames. frames ≡ no_frames slots ring)
    → IfOk made (λ frames. HoldLists table frames)
new_lists law table slots ring (Ok frames) is = subst (HoldLists table) (sym is) (law table slots ring)
new_lists law table slots ring (Err e) is = tt

pub returns-clause-lists : goal.returns-clause-lists
returns-clause-lists c = λ table. new_lists c.nothing_is_listed.ensures table c.args.slots c.args.ring c.new.result c.new.ensures
