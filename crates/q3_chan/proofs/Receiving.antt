-- What a receiver does with a datagram, by its parts.
use Rattle.std.proofs.Common.{◌≡◌, ◌∙◌, ◌<◌, ◌≤◌, ℕ, false, ltb, leb, cond, List, length, ap, subst, sym}
use Rattle.std.proofs.lemmas.Bool.{cond-true, cond-false, le-ltb, le-leb, lt-leb}
use Rattle.q3_chan.specs.declared.gatherer.Gathered.TheVariants.{Old}
use Rattle.q3_chan.specs.Datagrams.{longest_message, is_fragment, number_in, length_of, has_bad_check, start_in, count_in, after_header}
use Rattle.q3_chan.specs.Gathering.{Gathering, answers, arrives, is_connectionless, gathered, gathering_of, take_newer, take_whole, take_fragment}
use Rattle.q3_chan.proofs.Headers.{IsHeaded, IsWhole, IsFragment}

-- a datagram that has its header and belongs to a connection is old, or is taken
gathered-headed : (g : Gathering) (d : List ℕ) → 4 ≤ length d → is_connectionless d ≡ false → length_of g.form (is_fragment d) ≤ length d
    → has_bad_check g.form.side g.form.check d ≡ false
    → gathered g d ≡ cond (leb (number_in d) g.taken) (answers g Old) (take_newer g d)
unfolding gathered
gathered-headed g d long connected head checked =
    cond-false (ltb (length d) 4) _ _ (le-ltb _ _ long)
    ∙ cond-false (is_connectionless d) _ _ connected
    ∙ cond-false (ltb (length d) (length_of g.form (is_fragment d))) _ _ (le-ltb _ _ head)
    ∙ cond-false (has_bad_check g.form.side g.form.check d) _ _ checked

-- where its number isn't above the newest taken, it is old
pub gathered-old : (g : Gathering) (d : List ℕ) (number : ℕ) → IsHeaded g.form d number → number ≤ g.taken → gathered g d ≡ answers g Old
gathered-old g d number h old =
    gathered-headed g d h.long h.connected h.head h.checked
    ∙ cond-true (leb (number_in d) g.taken) _ _ (le-leb _ _ (subst (λ (n : ℕ). n ≤ g.taken) (sym h.number-is) old))

-- and where it is, it is taken
gathered-by_number : (g : Gathering) (d : List ℕ) (number : ℕ) → IsHeaded g.form d number → g.taken < number → gathered g d ≡ take_newer g d
gathered-by_number g d number h newer =
    gathered-headed g d h.long h.connected h.head h.checked
    ∙ cond-false (leb (number_in d) g.taken) _ _ (lt-leb _ _ (subst (λ (n : ℕ). g.taken < n) (sym h.number-is) newer))

-- a message that goes whole arrives
pub gathered-whole : (g : Gathering) (d : List ℕ) (number : ℕ) (message : List ℕ) → IsWhole g.form d number message → length message ≤ longest_message → g.taken < number
    → gathered g d ≡ arrives g number message
gathered-whole g d number message h most newer =
    gathered-by_number g d number h.headed newer
    ∙ cond-false (is_fragment d) _ _ h.no-fragment
    ∙ ap (λ (n : ℕ). take_whole g n (after_header g.form d)) h.headed.number-is
    ∙ ap (take_whole g number) h.after
    ∙ cond-false (ltb longest_message (length message)) _ _ (le-ltb _ _ most)

-- and a fragment is taken by where it starts
pub gathered-fragment : (g : Gathering) (d : List ℕ) (number start : ℕ) (piece : List ℕ) → IsFragment g.form d number start piece → g.taken < number
    → gathered g d ≡ take_fragment (gathering_of g number) start (length piece) piece
gathered-fragment g d number start piece h newer =
    gathered-by_number g d number h.headed newer
    ∙ cond-true (is_fragment d) _ _ h.is-fragment
    ∙ ap (λ (n : ℕ). take_fragment (gathering_of g n) (start_in g.form d) (count_in g.form d) (after_header g.form d)) h.headed.number-is
    ∙ ap (λ (n : ℕ). take_fragment (gathering_of g number) n (count_in g.form d) (after_header g.form d)) h.start-is
    ∙ ap (λ (n : ℕ). take_fragment (gathering_of g number) start n (after_header g.form d)) h.count-is
    ∙ ap (take_fragment (gathering_of g number) start (length piece)) h.after
