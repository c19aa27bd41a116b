-- Words that are mostly 0: those that aren't, put one after the other, and put over zeros again.
use Rattle.std.proofs.Common.{◌≡◌, ◌≢◌, ℕ, zero, suc, ◌+◌, ◌-◌, ◌*◌, ◌<◌, ◌≤◌, List, [], ◌∷◌, ◌++◌, length, take, drop, set, get_or, replicate, eqb, refl, sym, ap, subst, ◌∙◌, append_assoc, arith, inl, inr}
use lib.IntN.{ℤ}
use mir.Syntax.{w32}
use Rattle.std.specs.Int.{cast_unsigned}
use Rattle.std.specs.List.{concat, All}
use Rattle.std.proofs.lemmas.Bool.{eq-eqb, eqb-false, cases_Bool}
use Rattle.std.proofs.lemmas.List.{length-map, append-nil, drop_more, drop_all, take_at, take_all, drop_at, length-replicate, replicate-append-replicate, length-append, drop-drop, length-drop, length-take-le, take-append-drop}
use Rattle.std.proofs.lemmas.List.Elements.{All-nil, All-cons, All-get_or}
use Rattle.q3_fields.specs.Places.{Change, with_changes, AreRising}
use Rattle.q3_player.specs.Arrays.{changes_from}
use Rattle.q3_player.specs.State.{IsState, patterns_of, shorts_of, arrays_of}
use Rattle.q3_player.specs.declared.state.PlayerState.{PlayerState}
use Rattle.q3_words.specs.Fields.{values_of}
use Rattle.q3_words.specs.Kept.{player_of_words}
use Rattle.q3_player.specs.Laws.{ArraysAreKept}

-- the first word, and those after it
changes-first : (place count word : ℕ) (words : List ℕ)
    → changes_from place (replicate (suc count) 0) (word ∷ words) ≡ changes_from place (0 ∷ []) (word ∷ []) ++ changes_from (place + 1) (replicate count 0) words
unfolding changes_from
changes-first place count word words =
    elim (cases_Bool (eqb 0 word)) [
      | inl zero_word ↦ rw zero_word refl
      | inr differs ↦ rw differs refl
    ]

-- so many words were put, of which those that are left make the whole
pub record Reaches (kept : List Change) (place count : ℕ) (left : List ℕ) (whole : List Change) : Type 0 where
  pub all : kept ++ changes_from place (replicate count 0) left ≡ whole

pub goes_on : {kept whole : List Change} (first count : ℕ) (words : List ℕ) (k word : ℕ) → k < count → k < length words → word ≡ get_or words k 0
    → Reaches kept (first + k) (count - k) (drop k words) whole
    → Reaches (kept ++ changes_from (first + k) (0 ∷ []) (word ∷ [])) (first + (k + 1)) (count - (k + 1)) (drop (k + 1) words) whole
goes_on {kept} {whole} first count words k word few within is reached =
    let left : count - k ≡ suc (count - (k + 1)) = omega arith in
    let next : first + (k + 1) ≡ first + k + 1 = omega arith in
    let here : changes_from (first + k) (replicate (count - k) 0) (drop k words) ≡ changes_from (first + k) (0 ∷ []) (word ∷ []) ++ changes_from (first + (k + 1)) (replicate (count - (k + 1)) 0) (drop (k + 1) words) =
    rw (left, drop_more words k 0 within, ← is, next) (changes-first (first + k) (count - (k + 1)) word (drop (k + 1) words)) in
    record { all = append_assoc kept (changes_from (first + k) (0 ∷ []) (word ∷ [])) (changes_from (first + (k + 1)) (replicate (count - (k + 1)) 0) (drop (k + 1) words)) ∙ ap (λ (cs : List Change). kept ++ cs) (sym here) ∙ reached.all }

pub ends : {kept whole : List Change} (place count : ℕ) (words : List ℕ) (k : ℕ) → length words ≤ k → Reaches kept place count (drop k words) whole → kept ≡ whole
unfolding changes_from
ends {kept} {whole} place count words k past reached =
    let none : changes_from place (replicate count 0) [] ≡ [] = nothing place (replicate count 0) in
    sym (append-nil kept) ∙ ap (λ (cs : List Change). kept ++ cs) (sym none) ∙ ap (λ (ws : List ℕ). kept ++ changes_from place (replicate count 0) ws) (sym (drop_all k words past)) ∙ reached.all where
      nothing : (place : ℕ) (zeros : List ℕ) → changes_from place zeros [] ≡ []
      nothing place [] = refl
      nothing place (zero_word ∷ zeros) = refl

-- ---- several rows of words

changes-append : (place : ℕ) (xs ys ps qs : List ℕ) → length xs ≡ length ps → changes_from place (xs ++ ys) (ps ++ qs) ≡ changes_from place xs ps ++ changes_from (place + length xs) ys qs
unfolding changes_from
changes-append place [] ys [] qs same =
    let here : place ≡ place + 0 = omega arith in
    ap (λ (n : ℕ). changes_from n ys qs) here
changes-append place [] ys (a ∷ ps) qs same = absurd (omega arith)
changes-append place (x ∷ xs) ys [] qs same = absurd (omega arith)
changes-append place (x ∷ xs) ys (a ∷ ps) qs same =
    let others = changes-append (place + 1) xs ys ps qs (omega arith) in
    let here : place + 1 + length xs ≡ place + length (x ∷ xs) = omega arith in
    elim (cases_Bool (eqb x a)) [
      | inl as_it_was ↦ rw (as_it_was, ← here) others
      | inr differs ↦ rw (differs, ← here, others) refl
    ]

changes-zeros : (place count more : ℕ) (ps qs : List ℕ) → length ps ≡ count
    → changes_from place (replicate (count + more) 0) (ps ++ qs) ≡ changes_from place (replicate count 0) ps ++ changes_from (place + count) (replicate more 0) qs
changes-zeros place count more ps qs long =
    let zeros : length (replicate count 0) ≡ count = length-replicate count 0 in
    let both : replicate count 0 ++ replicate more 0 ≡ replicate (count + more) 0 = replicate-append-replicate {A = ℕ} count more 0 in
    rw (← both)
    (changes-append place (replicate count 0) (replicate more 0) ps qs (zeros ∙ sym long)
    ∙ ap (λ (n : ℕ). changes_from place (replicate count 0) ps ++ changes_from (place + n) (replicate more 0) qs) zeros)

-- a row of nothing but zeros
changes-same : (place : ℕ) (words : List ℕ) → changes_from place words words ≡ []
unfolding changes_from
changes-same place [] = refl
changes-same place (word ∷ words) = rw (eq-eqb word word refl) (changes-same (place + 1) words)

pub changes-none : (place count : ℕ) (words : List ℕ) → words ≡ replicate count 0 → changes_from place (replicate count 0) words ≡ []
changes-none place count words is = ap (λ (ws : List ℕ). changes_from place (replicate count 0) ws) is ∙ changes-same place (replicate count 0)

-- a block more was put
pub block_on : {kept whole : List Change} (first count : ℕ) (words : List ℕ) (k : ℕ) (block : List ℕ) (size : ℕ) → size ≡ 8 → 8 * (k + 1) ≤ count → 8 * (k + 1) ≤ length words → block ≡ take size (drop (k * 8) words)
    → Reaches kept (first + k * 8) (count - k * 8) (drop (k * 8) words) whole
    → Reaches (kept ++ changes_from (first + k * 8) (replicate 8 0) block) (first + (k + 1) * 8) (count - (k + 1) * 8) (drop ((k + 1) * 8) words) whole
block_on {kept} {whole} first count words k block size eight few within same reached =
    let is : block ≡ take 8 (drop (k * 8) words) = same ∙ ap (λ (n : ℕ). take n (drop (k * 8) words)) eight in
    let more : 8 + (count - (k + 1) * 8) ≡ count - k * 8 = omega arith in
    let next : first + k * 8 + 8 ≡ first + (k + 1) * 8 = omega arith in
    let place : k * 8 + 8 ≡ (k + 1) * 8 = omega arith in
    let some : 8 ≤ length (drop (k * 8) words) = omega (arith, length-drop (k * 8) words) in
    let long : length block ≡ 8 = ap (λ (ws : List ℕ). length ws) is ∙ length-take-le 8 (drop (k * 8) words) some in
    let after : drop 8 (drop (k * 8) words) ≡ drop ((k + 1) * 8) words = drop-drop 8 (k * 8) words ∙ ap (λ (n : ℕ). drop n words) place in
    let split : drop (k * 8) words ≡ block ++ drop ((k + 1) * 8) words = sym (take-append-drop 8 (drop (k * 8) words)) ∙ ap (λ (ws : List ℕ). take 8 (drop (k * 8) words) ++ ws) after ∙ ap (λ (ws : List ℕ). ws ++ drop ((k + 1) * 8) words) (sym is) in
    let here : changes_from (first + k * 8) (replicate (count - k * 8) 0) (drop (k * 8) words) ≡ changes_from (first + k * 8) (replicate 8 0) block ++ changes_from (first + (k + 1) * 8) (replicate (count - (k + 1) * 8) 0) (drop ((k + 1) * 8) words) =
    rw (← more, split, ← next) (changes-zeros (first + k * 8) 8 (count - (k + 1) * 8) block (drop ((k + 1) * 8) words) long) in
    record { all = append_assoc kept (changes_from (first + k * 8) (replicate 8 0) block) (changes_from (first + (k + 1) * 8) (replicate (count - (k + 1) * 8) 0) (drop ((k + 1) * 8) words)) ∙ ap (λ (cs : List Change). kept ++ cs) (sym here) ∙ reached.all }

-- none of them is 0
changes-some : (place count : ℕ) (words : List ℕ) → All (λ change. change.1 ≢ 0) (changes_from place (replicate count 0) words)
unfolding changes_from
changes-some place zero words = All-nil (λ (change : Change). change.1 ≢ 0)
changes-some place (suc count) [] = All-nil (λ (change : Change). change.1 ≢ 0)
changes-some place (suc count) (word ∷ words) =
    let others = changes-some (place + 1) count words in
    elim (cases_Bool (eqb 0 word)) [
      | inl zero_word ↦ rw zero_word others
      | inr differs ↦ rw differs (All-cons (λ (change : Change). change.1 ≢ 0) (place, word) (changes_from (place + 1) (replicate count 0) words) (λ e. eqb-false 0 word differs (sym e)) others)
    ]

-- what is kept of words, put over zeros, gives them
pub record Gives (count : ℕ) (kept : List Change) (words : List ℕ) : Type 0 where
  pub values : values_of count kept ≡ words
  pub are_kept : AreRising count 0 kept × All (λ change. change.1 ≢ 0) kept

pub gives : (arrays : ArraysAreKept) (count : ℕ) (kept : List Change) (words : List ℕ) → length words ≡ count → kept ≡ changes_from 0 (replicate (length words) 0) words → Gives count kept words
gives arrays count kept words long same =
    let is : kept ≡ changes_from 0 (replicate count 0) words = same ∙ ap (λ (n : ℕ). changes_from 0 (replicate n 0) words) long in
    let zeros : length (replicate count 0) ≡ count = length-replicate count 0 in
    record {
      values = rw is (arrays.made (replicate count 0) words (zeros ∙ sym long));
      are_kept = rw is (subst (λ (n : ℕ). AreRising n 0 (changes_from 0 (replicate count 0) words)) zeros (arrays.rise (replicate count 0) words), changes-some 0 count words);
    }

-- ---- a player

-- the words of its fields, and after them those of its arrays
abbrev player_words : PlayerState → List ℕ
player_words player = player.words ++ concat (arrays_of player)

words-joined : (player : PlayerState) → player_words player ≡ player.words ++ patterns_of player.stats ++ patterns_of player.persistant ++ patterns_of player.ammo ++ player.powerups
words-joined player = joined player.words (patterns_of player.stats) (patterns_of player.persistant) (patterns_of player.ammo) player.powerups where
  joined : (words stats persistant ammo powerups : List ℕ) → words ++ concat (stats ∷ persistant ∷ ammo ∷ powerups ∷ []) ≡ words ++ stats ++ persistant ++ ammo ++ powerups
  joined words stats persistant ammo powerups =
      let last : powerups ++ [] ≡ powerups = append-nil powerups in
      rw last (sym (append_assoc (words ++ stats ++ persistant) ammo powerups ∙ append_assoc (words ++ stats) persistant (ammo ++ powerups) ∙ append_assoc words stats (persistant ++ (ammo ++ powerups))))

-- the words of a player, row by row
pub record Rows (words stats persistant ammo powerups : List ℕ) : Type 0 where
  pub of_words : length words ≡ 64
  pub of_stats : length stats ≡ 16
  pub of_persistant : length persistant ≡ 16
  pub of_ammo : length ammo ≡ 16
  pub of_powerups : length powerups ≡ 16

-- all rows at once
rows-kept : (words stats persistant ammo powerups : List ℕ) → Rows words stats persistant ammo powerups
    → changes_from 0 (replicate 64 0) words ++ changes_from 64 (replicate 16 0) stats ++ changes_from 80 (replicate 16 0) persistant ++ changes_from 96 (replicate 16 0) ammo ++ changes_from 112 (replicate 16 0) powerups
    ≡ changes_from 0 (replicate 128 0) (words ++ stats ++ persistant ++ ammo ++ powerups)
rows-kept words stats persistant ammo powerups rows =
    let two : length (words ++ stats) ≡ 80 = omega (arith, length-append words stats, rows.of_words, rows.of_stats) in
    let three : length (words ++ stats ++ persistant) ≡ 96 = omega (arith, length-append (words ++ stats) persistant, two, rows.of_persistant) in
    let four : length (words ++ stats ++ persistant ++ ammo) ≡ 112 = omega (arith, length-append (words ++ stats ++ persistant) ammo, three, rows.of_ammo) in
    let stats_kept = changes_from 64 (replicate 16 0) stats in
    let persistant_kept = changes_from 80 (replicate 16 0) persistant in
    let ammo_kept = changes_from 96 (replicate 16 0) ammo in
    let powerups_kept = changes_from 112 (replicate 16 0) powerups in
    sym (changes-zeros 0 112 16 (words ++ stats ++ persistant ++ ammo) powerups four
    ∙ ap (λ (cs : List Change). cs ++ powerups_kept) (changes-zeros 0 96 16 (words ++ stats ++ persistant) ammo three
    ∙ ap (λ (cs : List Change). cs ++ ammo_kept) (changes-zeros 0 80 16 (words ++ stats) persistant two
    ∙ ap (λ (cs : List Change). cs ++ persistant_kept) (changes-zeros 0 64 16 words stats rows.of_words))))

-- and cut again
record Cut (whole words stats persistant ammo powerups : List ℕ) : Type 0 where
  of_words : take 64 whole ≡ words
  of_stats : take 16 (drop 64 whole) ≡ stats
  of_persistant : take 16 (drop 80 whole) ≡ persistant
  of_ammo : take 16 (drop 96 whole) ≡ ammo
  of_powerups : take 16 (drop 112 whole) ≡ powerups

-- what stands after a front
after_front : (whole front rest : List ℕ) (n : ℕ) → whole ≡ front ++ rest → length front ≡ n → drop n whole ≡ rest
after_front whole front rest n is long = rw is (drop_at front rest n long)

-- and the row with which that begins
row_after : (whole front row rest : List ℕ) (n : ℕ) → whole ≡ front ++ (row ++ rest) → length front ≡ n → length row ≡ 16 → take 16 (drop n whole) ≡ row
row_after whole front row rest n is long few = rw (after_front whole front (row ++ rest) n is long) (take_at row rest 16 few)

rows-cut : (words stats persistant ammo powerups : List ℕ) → Rows words stats persistant ammo powerups
    → Cut (words ++ stats ++ persistant ++ ammo ++ powerups) words stats persistant ammo powerups
rows-cut words stats persistant ammo powerups rows =
    let whole = words ++ stats ++ persistant ++ ammo ++ powerups in
    let two : length (words ++ stats) ≡ 80 = omega (arith, length-append words stats, rows.of_words, rows.of_stats) in
    let three : length (words ++ stats ++ persistant) ≡ 96 = omega (arith, length-append (words ++ stats) persistant, two, rows.of_persistant) in
    let four : length (words ++ stats ++ persistant ++ ammo) ≡ 112 = omega (arith, length-append (words ++ stats ++ persistant) ammo, three, rows.of_ammo) in
    let at_ammo : whole ≡ (words ++ stats ++ persistant) ++ (ammo ++ powerups) = append_assoc (words ++ stats ++ persistant) ammo powerups in
    let at_persistant : whole ≡ (words ++ stats) ++ (persistant ++ (ammo ++ powerups)) = at_ammo ∙ append_assoc (words ++ stats) persistant (ammo ++ powerups) in
    let at_stats : whole ≡ words ++ (stats ++ (persistant ++ (ammo ++ powerups))) = at_persistant ∙ append_assoc words stats (persistant ++ (ammo ++ powerups)) in
    record {
      of_words = ap (λ (ws : List ℕ). take 64 ws) at_stats ∙ take_at words (stats ++ (persistant ++ (ammo ++ powerups))) 64 rows.of_words;
      of_stats = row_after whole words stats (persistant ++ (ammo ++ powerups)) 64 at_stats rows.of_words rows.of_stats;
      of_persistant = row_after whole (words ++ stats) persistant (ammo ++ powerups) 80 at_persistant two rows.of_persistant;
      of_ammo = row_after whole (words ++ stats ++ persistant) ammo powerups 96 at_ammo three rows.of_ammo;
      of_powerups = ap (λ (ws : List ℕ). take 16 ws) (after_front whole (words ++ stats ++ persistant ++ ammo) powerups 112 refl four) ∙ take_all 16 powerups (omega (arith, rows.of_powerups));
    }

abbrev of_parts : List ℕ → List ℤ → List ℤ → List ℤ → List ℕ → PlayerState
of_parts words stats persistant ammo powerups = record { words = words; stats = stats; persistant = persistant; ammo = ammo; powerups = powerups }

player_of_parts : (player : PlayerState) (words : List ℕ) (stats persistant ammo : List ℤ) (powerups : List ℕ)
    → words ≡ player.words → stats ≡ player.stats → persistant ≡ player.persistant → ammo ≡ player.ammo → powerups ≡ player.powerups
    → of_parts words stats persistant ammo powerups ≡ player
player_of_parts player words stats persistant ammo powerups a b c d e = rw (a, b, c, d, e) refl

-- the rows of a state
rows-of : (player : PlayerState) → IsState player → Rows player.words (patterns_of player.stats) (patterns_of player.persistant) (patterns_of player.ammo) player.powerups
rows-of player state = record {
  of_words = state.words.count;
  of_stats = length-map player.stats (cast_unsigned w32) ∙ state.stats.count;
  of_persistant = length-map player.persistant (cast_unsigned w32) ∙ state.persistant.count;
  of_ammo = length-map player.ammo (cast_unsigned w32) ∙ state.ammo.count;
  of_powerups = state.powerups.count;
}

-- a state is that of its words
player_again : (arrays : ArraysAreKept) (player : PlayerState) → IsState player → player_of_words (player_words player) ≡ player
player_again arrays player state =
    let cut = rows-cut player.words (patterns_of player.stats) (patterns_of player.persistant) (patterns_of player.ammo) player.powerups (rows-of player state) in
    ap player_of_words (words-joined player) ∙ player_of_parts player _ _ _ _ _ cut.of_words
    (ap shorts_of cut.of_stats ∙ arrays.back player.stats state.stats.each)
    (ap shorts_of cut.of_persistant ∙ arrays.back player.persistant state.persistant.each)
    (ap shorts_of cut.of_ammo ∙ arrays.back player.ammo state.ammo.each)
    cut.of_powerups

-- what is kept of a state gives it
pub record GivesPlayer (kept : List Change) (player : PlayerState) : Type 0 where
  pub is : player_of_words (values_of 128 kept) ≡ player
  pub are_kept : AreRising 128 0 kept × All (λ change. change.1 ≢ 0) kept

pub gives_player : (arrays : ArraysAreKept) (player : PlayerState) (kept : List Change) → IsState player
    → kept
    ≡ changes_from 0 (replicate (length player.words) 0) player.words
    ++ changes_from 64 (replicate (length (patterns_of player.stats)) 0) (patterns_of player.stats)
    ++ changes_from 80 (replicate (length (patterns_of player.persistant)) 0) (patterns_of player.persistant)
    ++ changes_from 96 (replicate (length (patterns_of player.ammo)) 0) (patterns_of player.ammo)
    ++ changes_from 112 (replicate (length player.powerups) 0) player.powerups
    → GivesPlayer kept player
gives_player arrays player kept state same =
    let stats = patterns_of player.stats in
    let persistant = patterns_of player.persistant in
    let ammo = patterns_of player.ammo in
    let rows = rows-of player state in
    let long : length (player_words player) ≡ 128 = ap (λ (ws : List ℕ). length ws) (words-joined player) ∙ all_rows player.words stats persistant ammo player.powerups rows in
    let is : kept ≡ changes_from 0 (replicate 128 0) (player_words player) =
    same ∙ lengths player.words stats persistant ammo player.powerups _ _ _ _ _ rows.of_words rows.of_stats rows.of_persistant rows.of_ammo rows.of_powerups
    ∙ rows-kept player.words stats persistant ammo player.powerups rows
    ∙ ap (λ (ws : List ℕ). changes_from 0 (replicate 128 0) ws) (sym (words-joined player)) in
    let given = gives arrays 128 kept (player_words player) long (is ∙ ap (λ (n : ℕ). changes_from 0 (replicate n 0) (player_words player)) (sym long)) in
    record { is = ap player_of_words given.values ∙ player_again arrays player state; are_kept = given.are_kept } where
      lengths : (words stats persistant ammo powerups : List ℕ) (a b c d e : ℕ) → a ≡ 64 → b ≡ 16 → c ≡ 16 → d ≡ 16 → e ≡ 16
          → changes_from 0 (replicate a 0) words ++ changes_from 64 (replicate b 0) stats ++ changes_from 80 (replicate c 0) persistant ++ changes_from 96 (replicate d 0) ammo ++ changes_from 112 (replicate e 0) powerups
          ≡ changes_from 0 (replicate 64 0) words ++ changes_from 64 (replicate 16 0) stats ++ changes_from 80 (replicate 16 0) persistant ++ changes_from 96 (replicate 16 0) ammo ++ changes_from 112 (replicate 16 0) powerups
      lengths words stats persistant ammo powerups a b c d e e1 e2 e3 e4 e5 = rw (e1, e2, e3, e4, e5) refl

      all_rows : (words stats persistant ammo powerups : List ℕ) → Rows words stats persistant ammo powerups → length (words ++ stats ++ persistant ++ ammo ++ powerups) ≡ 128
      all_rows words stats persistant ammo powerups rows =
          omega (
            arith,
            length-append words stats,
            length-append (words ++ stats) persistant,
            length-append (words ++ stats ++ persistant) ammo,
            length-append (words ++ stats ++ persistant ++ ammo) powerups,
            rows.of_words,
            rows.of_stats,
            rows.of_persistant,
            rows.of_ammo,
            rows.of_powerups,
          )

-- ---- put over words

rising-within : (limit least : ℕ) (kept : List Change) → AreRising limit least kept → All (λ change. change.0 < limit) kept
rising-within limit least [] rises = All-nil (λ (change : Change). change.0 < limit)
rising-within limit least (change ∷ kept) rises =
    All-cons (λ (change : Change). change.0 < limit) change kept rises.1 (rising-within limit (change.0 + 1) kept rises.2)

-- each place is below the limit
pub place-within : (limit : ℕ) (kept : List Change) (k : ℕ) (d : Change) → AreRising limit 0 kept → k < length kept → (get_or kept k d).0 < limit
place-within limit kept k d rises within = All-get_or (λ (change : Change). change.0 < limit) kept k d within (rising-within limit 0 kept rises)

-- the first, and those after it
pub puts_on : (kept : List Change) (words : List ℕ) (k : ℕ) (d : Change) → k < length kept → with_changes words (drop k kept) ≡ with_changes (set words (get_or kept k d).0 (get_or kept k d).1) (drop (k + 1) kept)
unfolding with_changes
puts_on kept words k d within = rw (drop_more kept k d within) refl

pub puts_all : (kept : List Change) (words : List ℕ) (k : ℕ) → length kept ≤ k → with_changes words (drop k kept) ≡ words
unfolding with_changes
puts_all kept words k past = rw (drop_all k kept past) refl
