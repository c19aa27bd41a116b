-- Baselines that are set, by number.
use Rattle.std.proofs.Common.{◌≡◌, ℕ, ◌+◌, ◌<◌, List, [], ◌∷◌, ◌++◌, length, take, drop, None, ap, ◌∙◌, sym}
use Rattle.std.specs.List.{flat_map}
use Rattle.std.proofs.lemmas.List.{take_more, take-append-drop}
use Rattle.std.proofs.lemmas.List.Concat.{flat_map-append}
use Rattle.std.proofs.lemmas.List.Elements.{filter_map-append}
use Rattle.q3_entity.specs.declared.state.EntityState.{EntityState}
use Rattle.q3_entity.specs.Baselines.{Baselines, set_at, set_baselines}

more : (baselines : Baselines) (k : ℕ) → k < length baselines → set_baselines (take (k + 1) baselines) ≡ set_baselines (take k baselines) ++ set_baselines (set_at baselines k ∷ [])
more baselines k lt = rw (take_more baselines k None lt) (filter_map-append (λ baseline. baseline) (take k baselines) (set_at baselines k ∷ []))

-- those up to a number, and those above it
pub set_split : (baselines : Baselines) (k : ℕ) → set_baselines baselines ≡ set_baselines (take k baselines) ++ set_baselines (drop k baselines)
set_split baselines k = ap (λ all. set_baselines all) (sym (take-append-drop k baselines)) ∙ filter_map-append (λ baseline. baseline) (take k baselines) (drop k baselines)

-- their texts, up to a number, and above it
pub texts_more : (text : EntityState → List ℕ) (baselines : Baselines) (k : ℕ) → k < length baselines
    → flat_map text (set_baselines (take (k + 1) baselines)) ≡ flat_map text (set_baselines (take k baselines)) ++ flat_map text (set_baselines (set_at baselines k ∷ []))
texts_more text baselines k lt = ap (λ states. flat_map text states) (more baselines k lt) ∙ flat_map-append text (set_baselines (take k baselines)) (set_baselines (set_at baselines k ∷ []))

pub texts_split : (text : EntityState → List ℕ) (baselines : Baselines) (k : ℕ) → flat_map text (set_baselines baselines) ≡ flat_map text (set_baselines (take k baselines)) ++ flat_map text (set_baselines (drop k baselines))
texts_split text baselines k = ap (λ states. flat_map text states) (set_split baselines k) ∙ flat_map-append text (set_baselines (take k baselines)) (set_baselines (drop k baselines))
