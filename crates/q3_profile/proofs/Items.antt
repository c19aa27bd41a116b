-- The items of an array, one after another.
use Rattle.std.proofs.Common.{◌≡◌, ℕ, ◌+◌, ◌<◌, ◌≤◌, List, [], ◌∷◌, ◌++◌, length, get_or, drop, Option, Some, None, Result, Ok, Err, option_map, refl, sym, ap, ◌∙◌, append_assoc, append-nil}
use Rattle.std.proofs.lemmas.List.{drop_more, drop_all}
use Rattle.std.specs.Option.{ok_or}
use Rattle.toml.specs.Data.{Data, Items, Members, item, as_array}
use Rattle.toml.specs.View.{view, items_view}
use Rattle.toml.specs.declared.value.Value.{Value}
use Rattle.q3_bits.specs.ResultBind.{◌>>=◌}
use Rattle.q3_profile.specs.declared.error.Key.{Key}
use Rattle.q3_profile.specs.declared.error.ProfileError.TheVariants.{Kind}
use Rattle.q3_profile.specs.Items.{items_as}
use Rattle.q3_profile.specs.Document.{value_at, array_at}
use Rattle.q3_profile.specs.Seen.{items_at}

-- the items so far and those that are left are all items
pub record HasItems {A : Type 0} (type : Data → Option A) (values : List Value) (i : ℕ) (front : List A) : Type 0 where
  pub whole : option_map (λ rest. front ++ rest) (items_as type (items_view (drop i values))) ≡ items_as type (items_view values)

items_as-item : {A : Type 0} (type : Data → Option A) (one : Data) (others : Items) (x : A) (rest : Option (List A))
    → type one ≡ Some x → items_as type others ≡ rest → items_as type (item one others) ≡ option_map (λ xs. x ∷ xs) rest
unfolding items_as
items_as-item type one others x None h e = rw (h, e) refl
items_as-item type one others x (Some xs) h e = rw (h, e) refl

items_as-other : {A : Type 0} (type : Data → Option A) (one : Data) (others : Items)
    → type one ≡ None → items_as type (item one others) ≡ None
unfolding items_as
items_as-other type one others h = rw h refl

fronts : {A : Type 0} (front : List A) (x : A) (rest : Option (List A))
    → option_map (λ xs. (front ++ x ∷ []) ++ xs) rest ≡ option_map (λ xs. front ++ xs) (option_map (λ xs. x ∷ xs) rest)
fronts front x None = refl
fronts front x (Some xs) = ap Some (append_assoc front (x ∷ []) xs)

no_front : {A : Type 0} (rest : Option (List A)) → option_map (λ xs. [] ++ xs) rest ≡ rest
no_front None = refl
no_front (Some xs) = refl

pub HasItems-none : {A : Type 0} (type : Data → Option A) (values : List Value) → HasItems type values 0 []
HasItems-none type values = record { whole = no_front (items_as type (items_view values)) }

pub HasItems-more : {A : Type 0} (type : Data → Option A) (values : List Value) (i : ℕ) (front : List A) (v : Value) (x : A) → i < length values
    → HasItems type values i front → v ≡ get_or values i v → Some x ≡ type (view v) → HasItems type values (i + 1) (front ++ x ∷ [])
HasItems-more type values i front v x inside before there is =
    let rest = items_as type (items_view (drop (i + 1) values)) in
    let here : items_as type (items_view (drop i values)) ≡ option_map (λ xs. x ∷ xs) rest =
    ap (λ vs. items_as type (items_view vs)) (drop_more values i v inside) ∙ items_as-item type (view (get_or values i v)) (items_view (drop (i + 1) values)) x rest (ap (λ w. type (view w)) (sym there) ∙ sym is) refl in
    record { whole = fronts front x rest ∙ ap (option_map (λ xs. front ++ xs)) (sym here) ∙ before.whole }

-- an item of another type: there are no such items
pub HasItems-other : {A : Type 0} (type : Data → Option A) (values : List Value) (i : ℕ) (front : List A) (v : Value) → i < length values
    → HasItems type values i front → v ≡ get_or values i v → None ≡ type (view v) → items_as type (items_view values) ≡ None
HasItems-other type values i front v inside before there is =
    let here : items_as type (items_view (drop i values)) ≡ None =
    ap (λ vs. items_as type (items_view vs)) (drop_more values i v inside) ∙ items_as-other type (view (get_or values i v)) (items_view (drop (i + 1) values)) (ap (λ w. type (view w)) (sym there) ∙ sym is) in
    sym before.whole ∙ ap (option_map (λ xs. front ++ xs)) here

-- all of them
pub HasItems-all : {A : Type 0} (type : Data → Option A) (values : List Value) (i : ℕ) (front : List A) → length values ≤ i
    → HasItems type values i front → items_as type (items_view values) ≡ Some front
unfolding items_as
HasItems-all type values i front past before =
    let here : items_as type (items_view (drop i values)) ≡ Some [] = ap (λ vs. items_as type (items_view vs)) (drop_all i values past) in
    sym before.whole ∙ ap (option_map (λ xs. front ++ xs)) here ∙ ap Some (append-nil front)

in_turn : {A B C E : Type 0} (r : Result A E) (f : A → Result B E) (g : B → Result C E) → (r >>= (λ x. f x >>= g)) ≡ ((r >>= f) >>= g)
in_turn (Ok x) f g = refl
in_turn (Err e) f g = refl

-- the array under a key, from its items
pub array_at-items : {A : Type 0} (type : Data → Option A) (key : Key) (document : Members) (items : Items) (found : Option (List A))
    → Ok items ≡ items_at key document → items_as type items ≡ found → array_at type key document ≡ ok_or found (Kind key)
unfolding array_at
array_at-items type key document items found h e =
    in_turn (value_at key document) (λ value. ok_or (as_array value) (Kind key)) (λ items. ok_or (items_as type items) (Kind key))
    ∙ (rw (← h, e) refl)
