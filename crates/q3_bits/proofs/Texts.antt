-- Texts that are written one after the other.
use Rattle.std.proofs.Common.{◌≡◌, ◌+◌, ◌≤◌, ◌<◌, ℕ, Bool, List, [], ◌++◌, length, drop, get_or, Result, Ok, Err, refl, sym, ap, subst, ◌∙◌, append_assoc, arith}
use Rattle.std.proofs.lemmas.Bool.{false≢true}
use Rattle.std.proofs.lemmas.List.{append-nil, length-append, drop_more, drop_all}
use Rattle.q3_bits.specs.Words.{field_bits, row_bits}
use Rattle.q3_bits.specs.Streams.{Writing, IsOverlong, Extends, Writes, HasWritten}
use Rattle.q3_bits.specs.declared.writer.Overflow.{Overflow}

-- nothing is written
pub Writes-nothing : (w : Writing) → (IsOverlong w [] → ⊥) → Writes w w [] (Ok tt)
Writes-nothing w fits = record {
  refused = (λ e. absurd (false≢true e), λ over. absurd (fits over));
  ok = rw append-nil refl;
  front = ([], [], refl, rw append-nil refl);
}

-- a text that is refused as a whole, and one that is written so
pub Writes-none : (w : Writing) (text : List Bool) (e : Overflow) → IsOverlong w text → Writes w w text (Err e)
Writes-none w text e over = record { refused = (λ _. over, λ _. refl); ok = tt; front = ([], text, refl, rw append-nil refl) }

pub Writes-whole : (w now : Writing) (text : List Bool) → (IsOverlong w text → ⊥) → now ≡ record w { bits = w.bits ++ text } → Writes w now text (Ok tt)
Writes-whole w now text fits is = record {
  refused = (λ e. absurd (false≢true e), λ over. absurd (fits over));
  ok = is;
  front = (text, [], append-nil text, is);
}

-- what fits of a whole, fits of its front
fits-front : (w : Writing) (a b : List Bool) → IsOverlong w a → IsOverlong w (a ++ b)
fits-front w a b over = omega (arith, length-append a b)

-- where the first text was written, the second is overlong where both are
both-overlong : (start mid : Writing) (first second : List Bool) → mid ≡ record start { bits = start.bits ++ first } → IsOverlong mid second → IsOverlong start (first ++ second)
both-overlong start mid first second is over =
    let bits = ap (λ (w : Writing). length w.bits) is in
    let room = ap (λ (w : Writing). w.room) is in
    omega (arith, bits, room, length-append start.bits first, length-append first second)

overlong-both : (start mid : Writing) (first second : List Bool) → mid ≡ record start { bits = start.bits ++ first } → IsOverlong start (first ++ second) → IsOverlong mid second
overlong-both start mid first second is over =
    let bits = ap (λ (w : Writing). length w.bits) is in
    let room = ap (λ (w : Writing). w.room) is in
    omega (arith, bits, room, length-append start.bits first, length-append first second)

-- a front after a text
front-after : (start mid now : Writing) (first second : List Bool) → mid ≡ record start { bits = start.bits ++ first } → Extends mid now second → Extends start now (first ++ second)
front-after start mid now first second is front =
    (first ++ front.0, front.1, append_assoc first front.0 front.1 ∙ ap (λ (x : List Bool). first ++ x) front.2, front.3 ∙ rw (is, append_assoc) refl)

-- a text after a text, by what came of the second
Writes-both : (start mid now : Writing) (first second : List Bool) (result : Result (Unit {0}) Overflow) → Writes start mid first (Ok tt) → Writes mid now second result → Writes start now (first ++ second) result
Writes-both start mid now first second (Ok x) one two = record {
  refused = (λ e. absurd (false≢true e), λ over. two.refused.1 (overlong-both start mid first second one.ok over));
  ok = two.ok ∙ rw (one.ok, append_assoc) refl;
  front = front-after start mid now first second one.ok two.front;
}
Writes-both start mid now first second (Err e) one two = record {
  refused = (λ bad. both-overlong start mid first second one.ok (two.refused.0 bad), λ over. refl);
  ok = tt;
  front = front-after start mid now first second one.ok two.front;
}

pub Writes-then : (start mid now : Writing) (first whole : List Bool) (second : List (List Bool) → List Bool) (result : Result (Unit {0}) Overflow)
    → whole ≡ first ++ second start.words → Writes start mid first (Ok tt) → Writes mid now (second mid.words) result → Writes start now whole result
Writes-then start mid now first whole second result is one two =
    let words : mid.words ≡ start.words = ap (λ (w : Writing). w.words) one.ok in
    subst (λ (text : List Bool). Writes start now text result) (sym is)
    (Writes-both start mid now first (second start.words) result one (subst (λ (ws : List (List Bool)). Writes mid now (second ws) result) words two))

-- where a text is refused, so is one that begins with it
pub Writes-early : (start now : Writing) (first others whole : List Bool) (e : Overflow) → whole ≡ first ++ others → Writes start now first (Err e) → Writes start now whole (Err e)
Writes-early start now first others whole e is one =
    let front = one.front in
    subst (λ (text : List Bool). Writes start now text (Err e)) (sym is) (record {
      refused = (λ bad. fits-front start first others (one.refused.0 bad), λ over. refl);
      ok = tt;
      front = (front.0, front.1 ++ others, sym (append_assoc front.0 front.1 others) ∙ ap (λ (x : List Bool). x ++ others) front.2, front.3);
    })

-- ---- a row, whose text grows at its end

pub Writes-next : {start mid now : Writing} {first : List Bool} {result : Result (Unit {0}) Overflow} (second : List (List Bool) → List Bool)
    → Writes start mid first (Ok tt) → Writes mid now (second mid.words) result → Writes start now (first ++ second start.words) result
Writes-next {start = start} {mid = mid} {now = now} {first = first} {result = result} second written more =
    Writes-then start mid now first (first ++ second start.words) second result refl written more

pub Writes-refused : {start now : Writing} {first : List Bool} {e : Overflow} (others : List Bool)
    → Writes start now first (Err e) → Writes start now (first ++ others) (Err e)
Writes-refused {start = start} {now = now} {first = first} {e = e} others written = Writes-early start now first others (first ++ others) e refl written

-- ---- a whole, text by text

pub HasWritten-begin : (start : Writing) (whole : List Bool) → (IsOverlong start [] → ⊥) → HasWritten start start whole whole
HasWritten-begin start whole fits = record { written = []; parts = refl; writes = Writes-nothing start fits }

pub HasWritten-more : (start now next : Writing) (left whole piece others : List Bool) → HasWritten start now left whole → left ≡ piece ++ others
    → Writes now next piece (Ok tt) → HasWritten start next others whole
HasWritten-more start now next left whole piece others h cut one = record {
  written = h.written ++ piece;
  parts = append_assoc h.written piece others ∙ ap (λ (x : List Bool). h.written ++ x) (sym cut) ∙ h.parts;
  writes = Writes-both start now next h.written piece (Ok tt) h.writes one;
}

pub HasWritten-stops : (start now next : Writing) (left whole piece others : List Bool) (e : Overflow) → HasWritten start now left whole → left ≡ piece ++ others
    → Writes now next piece (Err e) → Writes start next whole (Err e)
HasWritten-stops start now next left whole piece others e h cut one =
    let parts : whole ≡ (h.written ++ piece) ++ others = sym h.parts ∙ ap (λ (x : List Bool). h.written ++ x) cut ∙ sym (append_assoc h.written piece others) in
    Writes-early start next (h.written ++ piece) others whole e parts (Writes-both start now next h.written piece (Err e) h.writes one)

pub HasWritten-all : (start now : Writing) (whole : List Bool) → HasWritten start now [] whole → Writes start now whole (Ok tt)
HasWritten-all start now whole h = subst (λ (text : List Bool). Writes start now text (Ok tt)) (sym (append-nil h.written) ∙ h.parts) h.writes

pub HasWritten-words : (start now : Writing) (left whole : List Bool) → HasWritten start now left whole → now.words ≡ start.words
HasWritten-words start now left whole h = ap (λ (w : Writing). w.words) h.writes.ok

-- ---- a row of fields

-- what is left of the row, one field on
pub row_bits-next : (words same : List (List Bool)) (fields : List (ℕ × ℕ)) (k : ℕ) → same ≡ words → k < length fields
    → row_bits words (drop k fields) ≡ field_bits same (get_or fields k (0, 0)).1 (get_or fields k (0, 0)).0 ++ row_bits words (drop (k + 1) fields)
unfolding row_bits
row_bits-next words same fields k is more = rw (is, drop_more fields k (0, 0) more) refl

-- nothing is left at the end
pub row_bits-end : (words : List (List Bool)) (fields : List (ℕ × ℕ)) (k : ℕ) → length fields ≤ k → row_bits words (drop k fields) ≡ []
unfolding row_bits
row_bits-end words fields k past = rw (drop_all k fields past) refl
