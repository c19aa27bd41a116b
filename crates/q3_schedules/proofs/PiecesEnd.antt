-- After all pieces of a config change no long string is pending. So none is after the commands up to where a message was begun.
use Rattle.std.proofs.Common.{List, None, Option, Some, [], ap, arith, drop, inl, inr, length, map, refl, subst, suc, sym, take, true, zero, ℕ, ◌++◌, ◌+◌, ◌<◌, ◌∙◌, ◌∷◌, ◌≡◌, ◌≤◌}
use Rattle.std.specs.Prelude.{All, IfSome, nat_lt, ◌==◌}
use Rattle.std.specs.Str.{bytes_eq}
use Rattle.std.specs.List.{range_with_len}
use Rattle.std.proofs.Math.Seq.{drop-length}
use Rattle.std.proofs.lemmas.Bool.{cases_lt, cond_both, eq-eqb, eqb-false, ne_eqb}
use Rattle.std.proofs.lemmas.List.{drop-append-le, length-append, length_push, take-append-le, take_all}
use Rattle.q3_built.specs.Built.{Built}
use Rattle.q3_config.specs.Changes.{Applied, after_change, after_command, after_commands, after_shape, change_or, finish, go_on, grow, make_change, unchanged, without_pending}
use Rattle.q3_config.specs.Commands.{Change, First, Last, Middle, Whole, Word, change_text, config_piece, piece_count, word_of}
use Rattle.q3_config.specs.Laws.{piece_texts}
use Rattle.q3_config.specs.Strings.{Pending, Strings, admit_fault, is_config_byte, longest_string, places, set_fault, string_at}
use Rattle.q3_config.specs.declared.error.ConfigError.{ConfigError}
use Rattle.q3_gamestate.specs.Values.{Gamestate}
use Rattle.q3_svmsg.specs.Values as told
use Rattle.q3_text.specs.Texts.{translated}
use Rattle.q3_world.specs.Games.{Carries}
use Rattle.q3_world.specs.Layers.{ConfigLaws}
use Rattle.q3_world.specs.World.{built_at}
use Rattle.q3_world.proofs.GamesParts.{built_end, built_front, carries_cases}
use Rattle.q3_world.proofs.GamesTexts.{after_commands-append}

-- ---- commands that leave nothing pending

-- where nothing is pending before these texts, nothing is after them
abbrev pub LeaveNone : List (List ℕ) → Type 0
LeaveNone texts = (strings : Strings) → strings.pending ≡ None → (after_commands strings texts).pending ≡ None

pub none_leave : LeaveNone []
unfolding after_commands
none_leave strings none = none

both_leave : (first rest : List (List ℕ)) → LeaveNone first → LeaveNone rest → LeaveNone (first ++ rest)
both_leave first rest before after strings none =
    ap (λ (s : Strings). s.pending) (after_commands-append strings first rest) ∙ after (after_commands strings first) (before strings none)

-- ---- what a piece leaves pending

-- nothing, or a text of this index
abbrev OfIndex : ℕ → Option Pending → Type 0
OfIndex index found = IfSome found (λ pending. pending.index ≡ index)

or_clears : (strings : Strings) (index : ℕ) (text : List ℕ) (fault : Option ConfigError) → strings.pending ≡ None → (change_or strings index text fault).strings.pending ≡ None
or_clears strings index text None none = none
or_clears strings index text (Some fault) none = refl

make_clears : (strings : Strings) (index : ℕ) (text : List ℕ) → strings.pending ≡ None → (make_change strings index text).strings.pending ≡ None
make_clears strings index text none =
    cond_both (bytes_eq (string_at strings index) (map translated text)) (unchanged strings) (change_or strings index text (set_fault strings index text))
    (λ (a : Applied). a.strings.pending ≡ None) (λ e. none) (λ e. or_clears strings index text (set_fault strings index text) none)

last_clears : (strings : Strings) (index : ℕ) (text : List ℕ) (found : Option Pending) → strings.pending ≡ found → OfIndex index found → (go_on strings Last index text found).strings.pending ≡ None
last_clears strings index text None at of = at
last_clears strings index text (Some pending) at of =
    let all = pending.text ++ text in
    cond_both (pending.index == index) (grow strings Last index all) (unchanged strings) (λ (a : Applied). a.strings.pending ≡ None)
    (λ e. cond_both (nat_lt longest_string (length all)) (unchanged (without_pending strings)) (finish strings Last index all) (λ (a : Applied). a.strings.pending ≡ None)
    (λ long. refl) (λ short. make_clears (without_pending strings) index all refl))
    (λ e. absurd (eqb-false pending.index index e of))

middle_keeps : (strings : Strings) (index : ℕ) (text : List ℕ) (found : Option Pending) → strings.pending ≡ found → OfIndex index found
    → OfIndex index (go_on strings Middle index text found).strings.pending
middle_keeps strings index text None at of = subst (OfIndex index) (sym at) of
middle_keeps strings index text (Some pending) at of =
    let all = pending.text ++ text in
    cond_both (pending.index == index) (grow strings Middle index all) (unchanged strings) (λ (a : Applied). OfIndex index a.strings.pending)
    (λ e. cond_both (nat_lt longest_string (length all)) (unchanged (without_pending strings)) (finish strings Middle index all) (λ (a : Applied). OfIndex index a.strings.pending)
    (λ long. tt) (λ short. refl))
    (λ e. subst (OfIndex index) (sym at) of)

-- ---- the pieces of a text

-- each is of its index, and has its word
piece_index : (index : ℕ) (text : List ℕ) (k : ℕ) → (config_piece index text k).index ≡ index
unfolding config_piece
piece_index index text k = refl

piece_word : (index : ℕ) (text : List ℕ) (k : ℕ) → (config_piece index text k).word ≡ word_of (piece_count (length text)) k
unfolding config_piece
piece_word index text k = refl

word_whole : (count : ℕ) → count ≡ 1 → word_of count 0 ≡ Whole
unfolding word_of
word_whole count one = rw (eq-eqb count 1 one) refl

word_first : (count : ℕ) → 1 < count → word_of count 0 ≡ First
unfolding word_of
word_first count more = rw (ne_eqb count 1 (λ e. omega (arith, e, more))) refl

word_middle : (count k : ℕ) → 0 < k → k + 1 < count → word_of count k ≡ Middle
unfolding word_of
word_middle count k after before = rw (ne_eqb count 1 (λ e. omega (arith, e, after, before)), ne_eqb k 0 (λ e. omega (arith, e, after)), ne_eqb (k + 1) count (λ e. omega (arith, e, before))) refl

word_last : (count k : ℕ) → 0 < k → k + 1 ≡ count → word_of count k ≡ Last
unfolding word_of
word_last count k after end = rw (ne_eqb count 1 (λ e. omega (arith, e, after, end)), ne_eqb k 0 (λ e. omega (arith, e, after)), eq-eqb (k + 1) count end) refl

module _ (laws : ConfigLaws) (index : ℕ) (text : List ℕ) (within : index < places) (carried : All (λ byte. is_config_byte byte ≡ true) text) where
  -- what one does, by its word
  does : (strings : Strings) (k : ℕ) (word : Word) → word_of (piece_count (length text)) k ≡ word
      → after_command strings (change_text (config_piece index text k)) ≡ after_change strings word index (config_piece index text k).text
  unfolding after_command
  does strings k word is =
      let piece = config_piece index text k in
      ap (λ (found : Option Change). after_shape strings found) (laws.read piece (change_text piece) (laws.changes index text k within carried) (inl refl))
      ∙ (ap (λ (w : Word). after_change strings w piece.index piece.text) (piece_word index text k ∙ is)
      ∙ ap (λ (i : ℕ). after_change strings word i piece.text) (piece_index index text k))

  -- those after the first
  others_end : (strings : Strings) (left k : ℕ) → 0 < k → k + suc left ≡ piece_count (length text) → OfIndex index strings.pending
      → (after_commands strings (map (λ k. change_text (config_piece index text k)) (range_with_len k (suc left)))).pending ≡ None
  unfolding after_commands
  others_end strings zero k after end of =
      ap (λ (a : Applied). a.strings.pending) (does strings k Last (word_last (piece_count (length text)) k after (omega (arith, end))))
      ∙ last_clears strings index (config_piece index text k).text strings.pending refl of
  others_end strings (suc left) k after end of =
      let is = does strings k Middle (word_middle (piece_count (length text)) k after (omega (arith, end))) in
      others_end (after_command strings (change_text (config_piece index text k))).strings left (k + 1) (omega arith) (omega (arith, end))
      (subst (λ (a : Applied). OfIndex index a.strings.pending) (sym is) (middle_keeps strings index (config_piece index text k).text strings.pending refl of))

  -- all of them
  all_end : (strings : Strings) (many : ℕ) → many ≡ piece_count (length text) → strings.pending ≡ None
      → (after_commands strings (map (λ k. change_text (config_piece index text k)) (range_with_len 0 many))).pending ≡ None
  unfolding after_commands
  all_end strings zero is none = none
  all_end strings (suc zero) is none =
      ap (λ (a : Applied). a.strings.pending) (does strings 0 Whole (word_whole (piece_count (length text)) (sym is)))
      ∙ make_clears strings index (config_piece index text 0).text none
  all_end strings (suc (suc left)) is none =
      let first = does strings 0 First (word_first (piece_count (length text)) (omega (arith, is))) in
      others_end (after_command strings (change_text (config_piece index text 0))).strings left 1 (omega arith) (omega (arith, is))
      (subst (λ (a : Applied). OfIndex index a.strings.pending) (sym first) refl)

-- all pieces of a change that may go out
pub pieces_leave : ConfigLaws → (strings : Strings) (index : ℕ) (text : List ℕ) → admit_fault strings index text ≡ None → LeaveNone (piece_texts index text)
pieces_leave laws strings index text may now none =
    let goes = laws.admitted strings index text may in
    all_end laws index text goes.within goes.carried now (piece_count (length text)) refl none

-- ---- where messages were begun

-- between any two messages, and after each, the texts leave nothing pending; and a gamestate has nothing pending
pub record Pauses (built : List Built) (issued : List (List ℕ)) : Type 0 where
  pub known : (n : ℕ) → 1 ≤ n → n ≤ length built → (built_at built n).last ≤ length issued
  pub between : (m n : ℕ) → 1 ≤ m → m ≤ n → n ≤ length built → LeaveNone (drop (built_at built m).last (take (built_at built n).last issued))
  pub since : (n : ℕ) → 1 ≤ n → n ≤ length built → LeaveNone (drop (built_at built n).last issued)
  pub game : (n : ℕ) (game : Gamestate) → Carries built n game → game.strings.pending ≡ None

pub pauses_nothing : Pauses [] []
pauses_nothing =
    record {
      known = λ n some begun. absurd (omega (arith, some, begun));
      between = λ m n some up begun. absurd (omega (arith, some, up, begun));
      since = λ n some begun. absurd (omega (arith, some, begun));
      game = λ n game is. let some = is.some in let begun = is.begun in absurd (omega (arith, some, begun));
    }

module _ (built : List Built) (issued : List (List ℕ)) where
  -- such texts are issued
  pub pauses_issued : (texts : List (List ℕ)) → LeaveNone texts → Pauses built issued → Pauses built (issued ++ texts)
  pauses_issued texts leave is =
      record {
        known = λ n some begun. let last = is.known n some begun in omega (arith, last, length-append issued texts);
        between = λ m n some up begun.
            subst (λ (front : List (List ℕ)). LeaveNone (drop (built_at built m).last front))
            (sym (take-append-le (built_at built n).last issued texts (is.known n (omega (arith, some, up)) begun))) (is.between m n some up begun);
        since = λ n some begun.
            let last = (built_at built n).last in
            subst LeaveNone (sym (drop-append-le last issued texts (is.known n some begun))) (both_leave (drop last issued) texts (is.since n some begun) leave);
        game = is.game;
      }

  -- a message is begun
  pub pauses_built : (next : Built) → next.last ≡ length issued → ((game : Gamestate) → next.message.section ≡ told.Game game → game.strings.pending ≡ None)
      → Pauses built issued → Pauses (built ++ next ∷ []) issued
  pauses_built next last none is =
      record {
        known = λ n some begun.
            elim (cases_lt (length built) n) [
              | inl past ↦ let same = end n past begun in omega (arith, same)
              | inr within ↦ subst (λ (k : ℕ). k ≤ length issued) (sym (front n some within)) (is.known n some within)
            ];
        between = λ m n some up begun.
            elim (cases_lt (length built) n) [
              | inl past ↦
                  let whole : take (built_at (built ++ next ∷ []) n).last issued ≡ issued = let same = end n past begun in take_all (built_at (built ++ next ∷ []) n).last issued (omega (arith, same)) in
                  subst (λ (texts : List (List ℕ)). LeaveNone (drop (built_at (built ++ next ∷ []) m).last texts)) (sym whole) (after m some (omega (arith, up, begun)))
              | inr within ↦
                  rw (front m some (omega (arith, up, within)), front n (omega (arith, some, up)) within) (is.between m n some up within)
            ];
        since = after;
        game = λ n game carries.
            elim (carries_cases built next n game carries) [
              | inl was ↦ is.game n game was
              | inr newest ↦ none game newest.1
            ];
      }
    where
      front : (n : ℕ) → 1 ≤ n → n ≤ length built → (built_at (built ++ next ∷ []) n).last ≡ (built_at built n).last
      front n some within = ap (λ (b : Built). b.last) (built_front built (next ∷ []) n some within)

      end : (n : ℕ) → length built < n → n ≤ length (built ++ next ∷ []) → (built_at (built ++ next ∷ []) n).last ≡ length issued
      end n past begun = ap (λ (b : Built). b.last) (built_end built next n (omega (arith, past, begun, length_push built next))) ∙ last

      after : (n : ℕ) → 1 ≤ n → n ≤ length (built ++ next ∷ []) → LeaveNone (drop (built_at (built ++ next ∷ []) n).last issued)
      after n some begun =
          elim (cases_lt (length built) n) [
            | inl past ↦ subst LeaveNone (sym (ap (λ (k : ℕ). drop k issued) (end n past begun) ∙ drop-length issued)) none_leave
            | inr within ↦ subst (λ (k : ℕ). LeaveNone (drop k issued)) (sym (front n some within)) (is.since n some within)
          ]
