use Rattle.std.proofs.Common.{◌≡◌, ℕ, ◌+◌, List, length, set, sym, ap, subst, ◌∙◌}
use Rattle.std.specs.Option.{option_map_or}
use Rattle.q3_world.specs.Forgetting.{named_by}
use Rattle.q3_world.proofs.Forgetting.{TellsFirst, with_line-many, tells_more, written_back}
use Rattle.q3_world.proofs.later.Later.of.Goals as goal

pub loop-event-preserved : goal.loop-event-preserved
loop-event-preserved c =
    let last = c.loop-event.last.items in
    let event = c.event-item.result in
    let index = c.loop-event.event-index in
    let done : c.loop-event.done + 1 ≡ index + 1 = ap (λ (n : ℕ). n + 1) c.loop-event.invariant.1 in
    let told : c.note.new.last ≡ option_map_or (λ (at : ℕ). set c.deref_mut.result.now at (c.loop-event.done + 1)) (named_by event) c.deref_mut.result.now = c.note.ensures in
    let noted : c.note.new.last ≡ option_map_or (λ (at : ℕ). set last at (index + 1)) (named_by event) last =
    told ∙ (ap (λ (l : List ℕ). option_map_or (λ (at : ℕ). set l at (c.loop-event.done + 1)) (named_by event) l) c.deref_mut.ensures.value
    ∙ ap (λ (n : ℕ). option_map_or (λ (at : ℕ). set last at n) (named_by event) last) done) in
    let back = written_back c.note.new.last last c.loop-event.last.len c.loop-event.last.ok.0
    (ap (λ (l : List ℕ). length l) noted ∙ with_line-many last (named_by event) (index + 1)) in (
      subst (λ (l : List ℕ). TellsFirst l c.args.events.now (index + 1)) (sym (back ∙ noted))
          (tells_more last c.args.events.now index event c.event-item.is c.loop-event-test.true c.loop-event.invariant.0),
      done,
    )
