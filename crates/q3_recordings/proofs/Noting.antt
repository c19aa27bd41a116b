-- What a client applies may be noted.
use Rattle.std.proofs.Common.{◌≡◌, ℕ, ◌<◌, ◌≤◌, Bool, true, false, List, [], ◌∷◌, ◌++◌, Option, Some, None, Result, Ok, Err, refl, sym, ap, subst, ◌∙◌, inl, inr, arith}
use Rattle.std.specs.Prelude.{nat_le, ◌&&◌, if◌then◌else◌}
use Rattle.std.specs.Int.{is_power_of_two}
use Rattle.std.proofs.lemmas.Bool.{cases_Bool, leb-true}
use Rattle.q3_profile.specs.declared.profile.Profile.{Profile}
use Rattle.q3_profile.specs.Profile.{is_parse_ring}
use Rattle.q3_svmsg.specs.Laws.{ReadIsSpelled}
use Rattle.q3_clstate.specs.State.{AppliedState}
use Rattle.q3_clstate.specs.Laws.{ApplyStays, AppliedIsContext}
use Rattle.q3_client.specs.Client.{ClientState, take_at}
use Rattle.q3_client.specs.Laws.{TakesMessages}
use Rattle.q3_report.specs.declared.answer.RecordRefused.{RecordRefused}
use Rattle.q3_report.specs.declared.answer.RecordRefused.TheVariants.{NoGame}
use Rattle.q3_demo.specs.Recording.{Noted}
use Rattle.q3_ends.specs.Recording.{RecordingState, RecordingStep, begin_at, begin_new}
use Rattle.q3_world.specs.StandsFor.{IsChecked}
use Rattle.q3_schedules.specs.Recorded.{noted_of}
use Rattle.q3_recordings.specs.Plays.{IsNoted, Follows, AreNoted, AreBy}
use Rattle.q3_recordings.proofs.Recorded.{GoOnFrom}
use Rattle.q3_recordings.proofs.Sound.{IsSound, new_sound, typed_keeps, moved_keeps, emitted_keeps, taken_sound, taken_notes}
use Rattle.q3_recordings.proofs.AtPlace.{ClientLaws, Becomes}

pub record Laws : Type 0 where
  pub read : ReadIsSpelled
  pub stays : ApplyStays
  pub contexts : AppliedIsContext
  pub takes : TakesMessages

parse_room : (ring : ℕ) → is_parse_ring ring ≡ true → 512 ≤ ring
parse_room ring is = leb-true 512 ring (least (nat_le 512 ring) (nat_le ring 65536) (is_power_of_two ring) is)
  where
    least : (x y z : Bool) → (x && y && z) ≡ true → x ≡ true
    least true y z e = refl
    least false y z e = absurd cc

pub client_laws : Laws → (profile : Profile) → IsChecked profile → ClientLaws profile
client_laws laws profile is = record {
  joins = λ challenge qport dup. new_sound laws.stays profile challenge qport dup is.codec (parse_room profile.parse_ring is.rings.parse_ring);
  types = λ client text. typed_keeps profile client text;
  moves = λ client one. moved_keeps profile client one;
  emits = λ client on. emitted_keeps profile client on;
  takes = λ client bytes sound. taken_sound laws.read laws.stays laws.contexts laws.takes profile client bytes sound;
}

-- ---- messages that go on from what a client has

-- these go on from what a client has
after_same : (old new : AppliedState) (messages : List Noted) → new ≡ old → GoOnFrom new messages → GoOnFrom old messages
after_same old new [] same after = tt
after_same old new (noted ∷ others) same after = after ∙ same

follows : (noted : Noted) (state : AppliedState) (others : List Noted) → state ≡ noted.applied.state → GoOnFrom state others → Follows noted others
follows noted state [] same after = tt
follows noted state (next ∷ others) same after = after ∙ same

pub record AreNotedFrom (state : AppliedState) (messages : List Noted) : Type 0 where
  pub are : AreNoted messages
  pub after : GoOnFrom state messages

pub none_noted : (state : AppliedState) → AreNotedFrom state []
none_noted state = record { are = tt; after = tt }

-- with what was noted of one event
one_noted : (noted : Noted) (before state : AppliedState) (others : List Noted) → noted.before ≡ before → state ≡ noted.applied.state → IsNoted noted → AreNotedFrom state others
    → AreNotedFrom before (noted ∷ others)
one_noted noted before state others from after is rest = record {
  are = (is, follows noted state others after rest.after, rest.are);
  after = from;
}

-- the messages that it applies by bytes, if it takes some
abbrev pub noted_by : ClientState → Option (List ℕ) → List Noted
noted_by client None = []
noted_by client (Some bytes) = noted_of client (take_at client bytes) (take_at client bytes).answer

-- after something that happens to it
pub becomes_noted : Laws → (profile : Profile) (client new : ClientState) (bytes : Option (List ℕ)) (others : List Noted) → Becomes profile client bytes new → IsSound profile client
    → 0 < client.state.number → (IsSound profile new → 0 < new.state.number → AreNotedFrom new.state others) → AreNotedFrom client.state (noted_by client bytes ++ others)
becomes_noted laws profile client new None others keeps sound begun onward =
    let state = keeps.state in
    let number : new.state.number ≡ client.state.number = ap (λ (s : AppliedState). s.number) state in
    let rest = onward (keeps.sound sound) (omega (arith, number, begun)) in
    record { are = rest.are; after = after_same client.state new.state others state rest.after }
becomes_noted laws profile client new (Some bytes) others is sound begun onward =
    let taken = take_at client bytes in
    let there : new.state ≡ taken.client.state = ap (λ (client : ClientState). client.state) is in
    let number : new.state.number ≡ taken.client.state.number = ap (λ (s : AppliedState). s.number) there in
    let now : IsSound profile new =
    subst (λ (client : ClientState). IsSound profile client) (sym is) (taken_sound laws.read laws.stays laws.contexts laws.takes profile client bytes sound) in
    elim (taken_notes laws.read laws.stays laws.contexts laws.takes profile client bytes sound) [
      | inl one ↦
          let some = one.1.begun in
          let rest = onward now (omega (arith, number, some)) in
          subst (λ (notes : List Noted). AreNotedFrom client.state (notes ++ others)) (sym one.1.notes)
          (one_noted one.0 client.state new.state others one.1.before (there ∙ one.1.after) (one.1.is begun) rest)
      | inr none ↦
          let same : taken.client.state.number ≡ client.state.number = ap (λ (s : AppliedState). s.number) none.same in
          let rest = onward now (omega (arith, number, same, begun)) in
          subst (λ (notes : List Noted). AreNotedFrom client.state (notes ++ others)) (sym none.notes)
          (record { are = rest.are; after = after_same client.state new.state others (there ∙ none.same) rest.after })
    ]

pub becomes_sound : Laws → (profile : Profile) (client new : ClientState) (bytes : Option (List ℕ)) → Becomes profile client bytes new → IsSound profile client → IsSound profile new
becomes_sound laws profile client new None keeps sound = keeps.sound sound
becomes_sound laws profile client new (Some bytes) is sound =
    subst (λ (client : ClientState). IsSound profile client) (sym is) (taken_sound laws.read laws.stays laws.contexts laws.takes profile client bytes sound)

pub are_by : (profile : Profile) (state : AppliedState) (messages : List Noted) → state.profile ≡ profile → GoOnFrom state messages → AreBy profile messages
are_by profile state [] by after = tt
are_by profile state (noted ∷ others) by after = ap (λ (s : AppliedState). s.profile) after ∙ by

-- ---- the `record` line

pub refuses : (result : Result (Unit {0}) RecordRefused) (cause : RecordRefused) → result ≡ Err cause → result ≡ Ok tt → ⊥
refuses (Ok x) cause failed is = absurd cc
refuses (Err e) cause failed is = absurd cc

-- a recording begins after a gamestate alone
pub begins_with_game : (client : ClientState) (going : Option RecordingState) (fresh : RecordingState) → (begin_at client going fresh).answer ≡ Ok tt → client.state.has_game ≡ true
begins_with_game client going fresh is = elim (cases_Bool client.state.has_game) [
  | inl game ↦ game
  | inr none ↦
      let refused : (begin_at client going fresh).answer ≡ Err NoGame = ap (λ (has : Bool). (if has then begin_new going fresh else no_game).answer) none in
      absurd (refuses (begin_at client going fresh).answer NoGame refused is)
]
  where
    no_game : RecordingStep RecordRefused
    no_game = record { recording = going; answer = Err NoGame; acts = [] }
