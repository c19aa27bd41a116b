-- What comes whole of the datagrams of one sender.
use Rattle.std.proofs.Common.{◌≡◌, ◌<◌, ◌∙◌, ℕ, List, [], ◌∷◌, length, refl, sym, ap, subst, inl, inr, arith}
use Rattle.std.specs.List.{All}
use Rattle.std.proofs.lemmas.List.Elements.{All-head, All-tail}
use Rattle.q3_chan.specs.declared.form.Form.{Form}
use Rattle.q3_chan.specs.declared.gatherer.Gathered.TheVariants.{Whole}
use Rattle.q3_chan.specs.Datagrams.{Header, datagram}
use Rattle.q3_chan.specs.Gathering.{Gathering, Took, gathered, gathered_all, new_gathering}
use Rattle.q3_chan.specs.Tags.{IsQuiet, tagged}
use Rattle.q3_chan.specs.Laws.{HoldsFront, IsOneOf, GatheredIsOne}
use Rattle.q3_chan.proofs.Tags.{tagged_does}
use Rattle.q3_chan.proofs.Tagging.{sent_is_tagged}

-- what comes whole is the message
tagged-whole : (messages : ℕ → List ℕ) (g : Gathering) (number index n count : ℕ) → (tagged g number (messages number) index).answer ≡ Whole n count
    → (tagged g number (messages number) index).message ≡ messages n
tagged-whole messages g number index n count e =
    elim (tagged_does g number (messages number) index).either [
      | inl waits ↦ absurd (subst IsQuiet e waits.quiet)
      | inr came ↦
          let both : Whole number (length (messages number)) ≡ Whole n count = sym came.answer ∙ e in
          let same : number ≡ n = cc in
          came.message_is ∙ ap messages same
    ]

-- an end that took these datagrams alone
record HasTaken (form : Form) (messages : ℕ → List ℕ) (g : Gathering) : Type 0 where
  form-is : g.form ≡ form
  front : HoldsFront messages g

-- a datagram more
record HasTook (form : Form) (messages : ℕ → List ℕ) (t : Took) : Type 0 where
  taken : HasTaken form messages t.gathering
  whole : (number count : ℕ) → t.answer ≡ Whole number count → t.message ≡ messages number

HasTaken-more : (header : Header) (messages : ℕ → List ℕ) (g : Gathering) (bytes : List ℕ) → header.qport < 65536 → HasTaken header.form messages g → IsOneOf header messages bytes
    → HasTook header.form messages (gathered g bytes)
HasTaken-more header messages g bytes port h one =
    let form = header.form in
    let qport = header.qport in
    let number = one.0 in
    let index = one.1 in
    let law = sent_is_tagged messages g qport number index h.front port one.2 one.3 one.4 one.5 in
    let is : gathered g bytes ≡ tagged g number (messages number) index =
    ap (gathered g) (one.6 ∙ ap (λ (s : Form). datagram (record { form = s; qport = qport }) number (messages number) index) (sym h.form-is)) ∙ law.0 in
    subst (HasTook form messages) (sym is) (record {
      taken = record { form-is = (tagged_does g number (messages number) index).form ∙ h.form-is; front = law.1 };
      whole = tagged-whole messages g number index;
    })

HasTaken-all : (header : Header) (messages : ℕ → List ℕ) (g : Gathering) (came : List (List ℕ)) → header.qport < 65536 → HasTaken header.form messages g → All (IsOneOf header messages) came
    → HasTaken header.form messages (gathered_all g came)
unfolding gathered_all
HasTaken-all header messages g [] port h all = h
HasTaken-all header messages g (bytes ∷ others) port h all =
    HasTaken-all header messages (gathered g bytes).gathering others port
    (HasTaken-more header messages g bytes port h (All-head (IsOneOf header messages) bytes others all)).taken (All-tail (IsOneOf header messages) bytes others all)

pub gathered_is_one : GatheredIsOne
gathered_is_one header messages came last number count port all one =
    let form = header.form in
    let none : HasTaken form messages (new_gathering form) = record { form-is = refl; front = record { count = 0; not_all = omega arith; front = refl } } in
    (HasTaken-more header messages (gathered_all (new_gathering form) came) last port (HasTaken-all header messages (new_gathering form) came port none all) one).whole number count
