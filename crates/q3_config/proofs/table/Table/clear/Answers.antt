use Rattle.std.proofs.Common.{ℕ, List, [], length, replicate, ap, sym, ◌∙◌, arith, rules}
use Rattle.std.proofs.lemmas.List.{length-map}
use Rattle.q3_config.specs.Strings.{config_size}
use Rattle.q3_config.specs.Table.{text_in}
use Rattle.q3_config.proofs.Places.{nowhere}
use Rattle.q3_config.proofs.Sizes.{config_size-empty}
use Rattle.q3_config.proofs.table.Table.clear.Goals as goal

pub invariant_of-self : goal.invariant_of-self
invariant_of-self c =
    let lie = nowhere c.clear.new.self.items c.fill.new.self.items _ (c.fill.ensures.items (λ y e. e)) in
    (lie.within, sym (ap config_size lie.same ∙ config_size-empty _), search rules, omega (arith, c.clear.ensures.capacity, c.self.invariant.3), c.self.invariant.4)

pub returns : goal.returns
returns c =
    let lie = nowhere c.clear.new.self.items c.fill.new.self.items _ (c.fill.ensures.items (λ y e. e)) in
    lie.same ∙ ap (λ n. replicate n []) (c.self.inside.places.ok.0 ∙ sym (length-map c.self.inside.places.items (λ place. text_in c.self.inside.bytes.items place)) ∙ ap (λ (texts : List (List ℕ)). length texts) c.self.view_is)
