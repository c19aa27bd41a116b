-- What comes whole of any bytes.
use Rattle.std.proofs.Common.{◌≡◌, ◌⊎◌, ◌+◌, ◌<◌, ◌≤◌, ◌∙◌, ℕ, true, false, ltb, eqb, List, [], ◌∷◌, ◌++◌, length, append_assoc, refl, sym, ap, subst, inl, inr, arith}
use Rattle.std.specs.List.{All}
use Rattle.std.proofs.lemmas.Bool.{cond_both, ltb-true, ltb-false}
use Rattle.std.proofs.lemmas.List.{append-nil, length-append, length-take-le}
use Rattle.std.proofs.lemmas.List.Elements.{All-nil, All-push}
use Rattle.q3_chan.specs.declared.form.Form.{Form}
use Rattle.q3_chan.specs.declared.gatherer.Gathered.TheVariants.{Whole, Partial}
use Rattle.q3_chan.specs.Datagrams.{fragment_size, is_fragment, number_in, start_in, count_in, after_header}
use Rattle.q3_chan.specs.Gathering.{Gathering, Took, answers, arrives, emptied, gathering_of, gathered, gathered_all, new_gathering}
use Rattle.q3_chan.specs.Laws.{ArePieces, StandIn, WholeArePieces}
use Rattle.q3_chan.proofs.Tags.{gathering_of-number}
use Rattle.q3_chan.proofs.Outcomes.{NotWhole, piece_in, IsTaken, gathered-each}

-- ---- pieces that came

-- a piece more
ArePieces-push : (form : Form) (number start : ℕ) (parts : List (List ℕ)) (bytes last : List ℕ) → ArePieces form number start parts bytes
    → is_fragment last ≡ true → number_in last ≡ number → start_in form last ≡ start + length bytes → count_in form last ≤ length (after_header form last)
    → ArePieces form number start (parts ++ last ∷ []) (bytes ++ piece_in form last)
ArePieces-push form number start [] bytes last none fragment is starts count =
    (fragment, is, starts ∙ ap (λ (b : List ℕ). start + length b) none ∙ omega arith, count, [], ap (λ (b : List ℕ). b ++ piece_in form last) none ∙ sym (append-nil (piece_in form last)), refl)
ArePieces-push form number start (one ∷ others) bytes last h fragment is starts count =
    let first = piece_in form one in
    let long : length bytes ≡ count_in form one + length h.4 =
    ap length h.5 ∙ length-append first h.4 ∙ ap (λ (n : ℕ). n + length h.4) (length-take-le (count_in form one) (after_header form one) h.3) in
    let next : start_in form last ≡ start + count_in form one + length h.4 = starts ∙ ap (λ (n : ℕ). start + n) long ∙ omega arith in (
      h.0,
      h.1,
      h.2,
      h.3,
      h.4 ++ piece_in form last,
      ap (λ (b : List ℕ). b ++ piece_in form last) h.5 ∙ append_assoc first h.4 (piece_in form last),
      ArePieces-push form number (start + count_in form one) others h.4 last h.6 fragment is next count,
    )

-- what stands among some stands among more
StandIn-more : (ones others after : List (List ℕ)) → StandIn ones others → StandIn ones (others ++ after)
StandIn-more [] others after h = tt
StandIn-more (one ∷ ones) others after h = (
  h.0,
  h.1 ++ after,
  ap (λ (all : List (List ℕ)). all ++ after) h.2 ∙ append_assoc h.0 (one ∷ h.1) after,
  StandIn-more ones h.1 after h.3,
)

StandIn-push : (ones others : List (List ℕ)) (last : List ℕ) → StandIn ones others → StandIn (ones ++ last ∷ []) (others ++ last ∷ [])
StandIn-push [] others last h = (others, [], refl, tt)
StandIn-push (one ∷ ones) others last h = (
  h.0,
  h.1 ++ last ∷ [],
  ap (λ (all : List (List ℕ)). all ++ last ∷ []) h.2 ∙ append_assoc h.0 (one ∷ h.1) (last ∷ []),
  StandIn-push ones h.1 last h.3,
)

-- ---- what is gathered

-- a piece of as many bytes as go into one
abbrev IsFull : Form → List ℕ → Type 0
IsFull form part = count_in form part ≡ fragment_size

-- what is gathered are such pieces of its number that came
record HoldsPieces (form : Form) (came : List (List ℕ)) (g : Gathering) : Type 0 where
  form-is : g.form ≡ form
  parts : List (List ℕ)
  stand : StandIn parts came
  full : All (IsFull form) parts
  are : ArePieces form g.number 0 parts g.bytes

-- a piece that is taken has as many bytes as it is said to, and no more than go into one
piece-size : (form : Form) (g : Gathering) (last : List ℕ) → g.form ≡ form → IsTaken g last → (length (piece_in g.form last) ≡ count_in form last) × (count_in form last ≤ fragment_size)
piece-size form g last form-is taken =
    let same : count_in g.form last ≡ count_in form last = ap (λ (s : Form). count_in s last) form-is in
    (length-take-le (count_in g.form last) (after_header g.form last) taken.count ∙ same, subst (λ (n : ℕ). n ≤ fragment_size) same taken.size)

HoldsPieces-more : (form : Form) (came after : List (List ℕ)) (g : Gathering) → HoldsPieces form came g → HoldsPieces form (came ++ after) g
HoldsPieces-more form came after g h =
    record { form-is = h.form-is; parts = h.parts; stand = StandIn-more h.parts came after h.stand; full = h.full; are = h.are }

HoldsPieces-gathering_of : (form : Form) (came : List (List ℕ)) (g : Gathering) (number : ℕ) → HoldsPieces form came g → HoldsPieces form came (gathering_of g number)
HoldsPieces-gathering_of form came g number h =
    cond_both (eqb number g.number) g (record g { number = number; bytes = [] }) (HoldsPieces form came) (λ _. h)
    (λ _. record { form-is = h.form-is; parts = []; stand = tt; full = All-nil (IsFull form); are = refl })

-- with the piece of a datagram more, they are the pieces that came and it
pieces-and : (form : Form) (came : List (List ℕ)) (g : Gathering) (last : List ℕ) (h : HoldsPieces form came (gathering_of g (number_in last))) → g.form ≡ form → IsTaken g last
    → ArePieces form (number_in last) 0 (h.parts ++ last ∷ []) ((gathering_of g (number_in last)).bytes ++ piece_in g.form last)
pieces-and form came g last h form-is taken =
    let k = gathering_of g (number_in last) in
    let are = subst (λ (n : ℕ). ArePieces form n 0 h.parts k.bytes) (gathering_of-number g (number_in last)) h.are in
    let P : Form → Type 0 = λ s. start_in s last ≡ length k.bytes in
    let Q : Form → Type 0 = λ s. count_in s last ≤ length (after_header s last) in
    subst (λ (s : Form). ArePieces form (number_in last) 0 (h.parts ++ last ∷ []) (k.bytes ++ piece_in s last)) (sym form-is)
    (ArePieces-push form (number_in last) 0 h.parts k.bytes last are taken.fragment refl (subst P form-is taken.start ∙ omega arith) (subst Q form-is taken.count))

HoldsPieces-gathered : (form : Form) (came : List (List ℕ)) (g : Gathering) (last : List ℕ) → HoldsPieces form came g → HoldsPieces form (came ++ last ∷ []) (gathered g last).gathering
HoldsPieces-gathered form came g last h =
    let k = gathering_of g (number_in last) in
    let kept = HoldsPieces-gathering_of form came g (number_in last) h in
    let P : Took → Type 0 = λ t. HoldsPieces form (came ++ last ∷ []) t.gathering in
    let piece = piece_in g.form last in
    gathered-each P g last (record {
      none = λ a _. HoldsPieces-more form came (last ∷ []) g h;
      whole = λ _ _. record { form-is = h.form-is; parts = h.parts; stand = StandIn-more h.parts came (last ∷ []) h.stand; full = h.full; are = h.are };
      gathers = λ a _. HoldsPieces-more form came (last ∷ []) k kept;
      adds = λ taken. cond_both (ltb (length piece) fragment_size) (arrives (emptied k) k.number (k.bytes ++ piece)) (answers (record k { bytes = k.bytes ++ piece }) Partial) P
          (λ _. record { form-is = kept.form-is; parts = []; stand = tt; full = All-nil (IsFull form); are = refl })
          (λ long. record {
            form-is = kept.form-is;
            parts = kept.parts ++ last ∷ [];
            stand = StandIn-push kept.parts came last kept.stand;
            full = All-push (IsFull form) kept.parts last kept.full (let size = piece-size form g last h.form-is taken in omega (arith, size, ltb-false _ _ long));
            are = subst (λ (n : ℕ). ArePieces form n 0 (kept.parts ++ last ∷ []) (k.bytes ++ piece)) (sym (gathering_of-number g (number_in last))) (pieces-and form came g last kept h.form-is taken);
          });
    })

HoldsPieces-all : (form : Form) (seen : List (List ℕ)) (g : Gathering) (came : List (List ℕ)) → HoldsPieces form seen g → HoldsPieces form (seen ++ came) (gathered_all g came)
unfolding gathered_all
HoldsPieces-all form seen g [] h = HoldsPieces-more form seen [] g h
HoldsPieces-all form seen g (bytes ∷ others) h =
    subst (λ (all : List (List ℕ)). HoldsPieces form all (gathered_all (gathered g bytes).gathering others)) (append_assoc seen (bytes ∷ []) others)
    (HoldsPieces-all form (seen ++ bytes ∷ []) (gathered g bytes).gathering others (HoldsPieces-gathered form seen g bytes h))

-- ---- what comes whole

-- where a message comes whole, it stood in the datagram or is pieces that came
abbrev ComesWhole : Form → List (List ℕ) → List ℕ → ℕ → ℕ → Took → Type 0
ComesWhole form came last number count t =
    t.answer ≡ Whole number count
    → ((is_fragment last ≡ false) × (number_in last ≡ number) × (t.message ≡ after_header form last))
    ⊎ ((parts : List (List ℕ)) × StandIn parts came × All (IsFull form) parts × (count_in form last < fragment_size) × ArePieces form number 0 (parts ++ last ∷ []) t.message)

comes_whole : (form : Form) (came : List (List ℕ)) (g : Gathering) (last : List ℕ) (number count : ℕ) → HoldsPieces form came g → ComesWhole form came last number count (gathered g last)
comes_whole form came g last number count h =
    let k = gathering_of g (number_in last) in
    let kept = HoldsPieces-gathering_of form came g (number_in last) h in
    let P = ComesWhole form came last number count in
    let piece = piece_in g.form last in
    gathered-each P g last (record {
      none = λ a not e. absurd (subst NotWhole e not);
      whole = λ whole _ e. let same : number_in last ≡ number = cc in inl (whole, same, ap (λ (s : Form). after_header s last) h.form-is);
      gathers = λ a not e. absurd (subst NotWhole e not);
      adds = λ taken. cond_both (ltb (length piece) fragment_size) (arrives (emptied k) k.number (k.bytes ++ piece)) (answers (record k { bytes = k.bytes ++ piece }) Partial) P
          (λ short e.
          let same : k.number ≡ number = cc in
          let size = piece-size form g last h.form-is taken in
          inr (kept.parts, kept.stand, kept.full, omega (arith, size, ltb-true _ _ short), subst (λ (n : ℕ). ArePieces form n 0 (kept.parts ++ last ∷ []) (k.bytes ++ piece)) (sym (gathering_of-number g (number_in last)) ∙ same) (pieces-and form came g last kept h.form-is taken)))
          (λ _ e. absurd cc);
    })

pub whole_are_pieces : WholeArePieces
whole_are_pieces form came last number count =
    let none : HoldsPieces form [] (new_gathering form) = record { form-is = refl; parts = []; stand = tt; full = All-nil (IsFull form); are = refl } in
    comes_whole form came (gathered_all (new_gathering form) came) last number count (HoldsPieces-all form [] (new_gathering form) came none)
