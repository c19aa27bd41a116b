use Rattle.std.proofs.Common.{◌≡◌, ◌≤◌, ◌<◌, ◌%◌, ◌⊎◌, ◌∙◌, ℕ, List, Bool, get_or, sym, ap, subst, arith, inl, inr}
use Rattle.std.proofs.lemmas.List.{get_or_default}
use Rattle.q3_bits.specs.declared.code.Word.{Word}
use Rattle.q3_bits.specs.declared.code.Entry.{Entry}
use Rattle.q3_bits.specs.Words.{byte_from}
use Rattle.q3_bits.specs.Table.{Leads, IsEntry, IsIndex, no_entry}
use Rattle.q3_bits.proofs.CodeText.{entry_found}
use Rattle.q3_bits.proofs.code.Code.entry.Goals as goal

-- what the index says of these bits
said_of : (words : List Word) (entries : List Entry) (bits : ℕ) (entry : Entry) → IsIndex words entries → bits < 4096 → entry ≡ get_or entries bits entry → IsEntry words bits entry
said_of words entries bits entry index small is =
    let here : get_or entries bits no_entry ≡ entry = get_or_default entries bits no_entry entry (omega (arith, index.count)) ∙ sym is in
    subst (λ (e : Entry). IsEntry words bits e) here (index.each bits small)

-- an entry that names a word says which begins the bits
leads_of : (words : List Word) (entry : Entry) (bits : ℕ) → entry.length < 64 → IsEntry words bits entry → (entry.length ≤ 12) × Leads words entry bits
leads_of words entry bits some (inl none) = absurd (omega arith)
leads_of words entry bits some (inr says) = says

-- and how long it may be
short_of : (words : List Word) (entry : Entry) (bits : ℕ) → IsEntry words bits entry → (entry.length ≡ 64) ⊎ (entry.length ≤ 12)
short_of words entry bits (inl none) = inl none
short_of words entry bits (inr says) = inr says.0

pub returns-clause-found : goal.returns-clause-found
returns-clause-found c = λ left spells some enough.
    let i = c.self.inside in
    let h = c.self.invariant in
    let bits = c.args.window % 4096 in
    let entry = c.index.result.now in
    let said = leads_of i.words.items entry bits some (said_of i.words.items i.index.items bits entry h.index (omega arith) c.index.ensures) in
    sym (ap (λ (ws : List (List Bool)). byte_from 0 ws left) c.self.view_is)
    ∙ entry_found i.words.items entry c.args.window left h.is_code said.1 said.0 enough spells

pub returns-clause-short : goal.returns-clause-short
returns-clause-short c =
    let bits = c.args.window % 4096 in
    let entry = c.index.result.now in
    short_of c.self.inside.words.items entry bits (said_of c.self.inside.words.items c.self.inside.index.items bits entry c.self.invariant.index (omega arith) c.index.ensures)
