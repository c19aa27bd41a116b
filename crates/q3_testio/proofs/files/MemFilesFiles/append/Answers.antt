use Rattle.std.proofs.Common.{◌≡◌, ◌<◌, [], length, refl, ap, ◌∙◌}
use Rattle.q3_testio.specs.FileStore.{StoreState}
use Rattle.q3_testio.proofs.ToldHeld.{have_files_add, nothing_added}
use Rattle.q3_testio.proofs.files.MemFilesFiles.append.Goals as goal

pub returns-then-next_fails-clause-told : goal.returns-then-next_fails-clause-told
returns-then-next_fails-clause-told c =
    let numbered : c.args.file < length c.self.inside.numbers.numbers = rw (← c.self.view_is) at c.requires in
    rw (← c.self.view_is) (nothing_added _ c.args.file c.args.bytes.now (c.self.invariant.1 c.args.file [] numbered))

pub returns-then-not-append-clause-told : goal.returns-then-not-append-clause-told
returns-then-not-append-clause-told c =
    let numbered : c.args.file < length c.self.inside.numbers.numbers = rw (← c.self.view_is) at c.requires in
    let same : c.append.new.self ≡ c.self.inside.store = c.append.ensures.whole ∙ rw (← c.if-not-append.ensures.fits) refl in
    rw (ap (λ (store : StoreState). store.files) same, ← c.self.view_is) (nothing_added _ c.args.file c.args.bytes.now (c.self.invariant.1 c.args.file [] numbered))

pub invariant_of-self-else-not-append : goal.invariant_of-self-else-not-append
invariant_of-self-else-not-append c =
    have_files_add _ _ c.self.inside.store c.append.new.self c.name.result.now c.args.bytes.now c.append.ensures.whole c.self.invariant
