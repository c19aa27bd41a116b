-- Every recording that goes on has its end, client by client.
use Rattle.std.proofs.Common.{◌≡◌, ℕ, ◌+◌, ◌<◌, ◌≤◌, List, [], ◌∷◌, ◌++◌, length, get_or, take, drop, set, Option, Some, None, Result, Ok, Err, refl, sym, ap, subst, ◌∙◌, append_assoc, arith}
use Rattle.std.specs.List.{flat_map}
use Rattle.std.specs.Prelude.{map, slice_index, slice_set}
use Rattle.std.proofs.lemmas.Grind.{flat_map-append}
use Rattle.std.proofs.lemmas.List.{append-nil, drop_all, drop_more, get_or-set_other, length-append, length-map, length-take-le, map-append, take-append-drop, take_all}
use Rattle.std.proofs.Math.Seq.{get_or-append_seam, set-append_seam, take-add}
use Rattle.q3_io.specs.declared.sink.Failed.{Failed}
use Rattle.q3_io.specs.Acts.{FileAct}
use Rattle.q3_io.specs.Told.{Told}
use Rattle.q3_server.specs.Server.{places}
use Rattle.q3_ends.specs.Recording.{HasFile, WritesFiles}
use Rattle.q3_ends.proofs.Files.{writes_both, writes_more}
use Rattle.q3_world.specs.declared.places.Place.{Place}
use Rattle.q3_world.specs.Ends.{Ends, place_at, recording_at}
use Rattle.q3_world.specs.Files.{AreNumbered, ended, ending_acts, stop_acts, without}
use Rattle.q3_world.proofs.Filing.{KeepsNames, numbered_at}
use Rattle.q3_world.proofs.OnePlace.{set_there}

-- what the ends of so many clients do
abbrev pub ended_acts : Ends → ℕ → List FileAct
ended_acts ends count = flat_map stop_acts (take count ends.clients)

ended_one : (ends : Ends) (count : ℕ) → count < length ends.clients → ended_acts ends (count + 1) ≡ ended_acts ends count ++ stop_acts (place_at ends count)
ended_one ends count lt =
    let clients = ends.clients in
    ap (flat_map stop_acts) (take-add count 1 clients ∙ ap (λ (left : List (Option Place)). take count clients ++ take 1 left) (drop_more clients count None lt))
    ∙ (flat_map-append stop_acts (take count clients) (get_or clients count None ∷ [])
    ∙ ap (λ (acts : List FileAct). ended_acts ends count ++ acts) (append-nil (stop_acts (place_at ends count))))

ended_rest : (ends : Ends) (count : ℕ) → ending_acts ends ≡ ended_acts ends count ++ flat_map stop_acts (drop count ends.clients)
ended_rest ends count = ap (flat_map stop_acts) (sym (take-append-drop count ends.clients)) ∙ flat_map-append stop_acts (take count ends.clients) (drop count ends.clients)

-- the recordings of so many clients have their ends, and the others are as they were
pub record HaveEnds (count : ℕ) (start now : Ends) : Type 0 where
  pub are : now ≡ record start { clients = map without (take count start.clients) ++ drop count start.clients }

pub HaveEnds-begin : (start : Ends) → HaveEnds 0 start start
HaveEnds-begin start = record { are = refl }

-- the next one is as it was
in_front : (clients : List (Option Place)) (count : ℕ) → count < length clients → length (map without (take count clients)) ≡ count
in_front clients count lt = length-map (take count clients) without ∙ length-take-le count clients (omega (arith, lt))

parts : (clients : List (Option Place)) (count : ℕ) → count < length clients → drop count clients ≡ get_or clients count None ∷ drop (count + 1) clients
parts clients count lt = drop_more clients count None lt

pub HaveEnds-there : (count : ℕ) (start now : Ends) → count < length start.clients → HaveEnds count start now → place_at now count ≡ place_at start count
HaveEnds-there count start now lt have =
    let front = map without (take count start.clients) in
    let rest = drop (count + 1) start.clients in
    ap (λ (ends : Ends). place_at ends count) have.are
    ∙ (ap (λ (left : List (Option Place)). get_or (front ++ left) count None) (parts start.clients count lt)
    ∙ (ap (λ (k : ℕ). get_or (front ++ place_at start count ∷ rest) k None) (sym (in_front start.clients count lt))
    ∙ get_or-append_seam front (place_at start count) rest None))

one_more : (clients : List (Option Place)) (count : ℕ) → count < length clients
    → map without (take count clients) ++ without (get_or clients count None) ∷ drop (count + 1) clients ≡ map without (take (count + 1) clients) ++ drop (count + 1) clients
one_more clients count lt =
    let there = get_or clients count None in
    let rest = drop (count + 1) clients in
    sym (append_assoc (map without (take count clients)) (without there ∷ []) rest)
    ∙ ap (λ (front : List (Option Place)). front ++ rest)
    (sym (ap (map without) (take-add count 1 clients ∙ ap (λ (left : List (Option Place)). take count clients ++ take 1 left) (parts clients count lt))
    ∙ map-append without (take count clients) (there ∷ [])))

set_next : (front rest : List (Option Place)) (one other : Option Place) (count : ℕ) → length front ≡ count → set (front ++ one ∷ rest) count other ≡ front ++ other ∷ rest
set_next front rest one other count is = subst (λ (k : ℕ). set (front ++ one ∷ rest) k other ≡ front ++ other ∷ rest) is (set-append_seam front one rest other)

pub HaveEnds-more : (count : ℕ) (start now : Ends) → count < length start.clients → HaveEnds count start now
    → HaveEnds (count + 1) start (record now { clients = slice_set now.clients count (without (place_at now count)) })
HaveEnds-more count start now lt have =
    let front = map without (take count start.clients) in
    let there = place_at start count in
    let rest = drop (count + 1) start.clients in
    let clients : now.clients ≡ front ++ there ∷ rest =
    ap (λ (ends : Ends). ends.clients) have.are ∙ ap (λ (left : List (Option Place)). front ++ left) (parts start.clients count lt) in
    let next : slice_set now.clients count (without (place_at now count)) ≡ front ++ without there ∷ rest =
    ap (λ (found : Option Place). slice_set now.clients count (without found)) (HaveEnds-there count start now lt have)
    ∙ (ap (λ (list : List (Option Place)). slice_set list count (without there)) clients
    ∙ set_next front rest there (without there) count (in_front start.clients count lt)) in
    record {
      are = ap (λ (ends : Ends). record ends { clients = slice_set now.clients count (without (place_at now count)) }) have.are
          ∙ ap (λ (list : List (Option Place)). record start { clients = list }) (next ∙ one_more start.clients count lt);
    }

pub HaveEnds-all : (count : ℕ) (start now : Ends) → length start.clients ≤ count → HaveEnds count start now → now ≡ ended start
HaveEnds-all count start now le have =
    have.are
    ∙ ap (λ (list : List (Option Place)). record start { clients = list })
    (ap (λ (left : List (Option Place)). map without (take count start.clients) ++ left) (drop_all count start.clients le)
    ∙ (append-nil (map without (take count start.clients)) ∙ ap (map without) (take_all count start.clients le)))

HaveEnds-length : (count : ℕ) (start now : Ends) → HaveEnds count start now → length now.clients ≡ length start.clients
HaveEnds-length count start now have =
    ap (λ (ends : Ends). length ends.clients) have.are
    ∙ (length-append (map without (take count start.clients)) (drop count start.clients)
    ∙ (ap (λ (k : ℕ). k + length (drop count start.clients)) (length-map (take count start.clients) without)
    ∙ (sym (length-append (take count start.clients) (drop count start.clients)) ∙ ap length (take-append-drop count start.clients))))

-- numbers stay where files go on
gone_file : (told : Option Told) (given file : ℕ) (found : Option Place) → HasFile told given file (recording_at (without found))
gone_file told given file None = tt
gone_file told given file (Some place) = tt

pub numbered_ended : (told now : Option Told) (given behind count : ℕ) (numbers : List ℕ) (start here : Ends) → KeepsNames told now given → given ≤ behind → count < places
    → length start.clients ≡ places → HaveEnds count start here → AreNumbered told given numbers here
    → AreNumbered now behind numbers (record here { clients = slice_set here.clients count (without (place_at here count)) })
numbered_ended told now given behind count numbers start here names le lt room have numbered =
    let found = without (place_at here count) in
    let many : length here.clients ≡ places = HaveEnds-length count start here have ∙ room in
    numbered_at told now given behind count numbers numbers here (record here { clients = slice_set here.clients count found }) names le (λ d not. refl)
    (λ d not. ap recording_at (get_or-set_other here.clients count d found None not))
    (subst (λ (there : Option Place). HasFile now behind (slice_index numbers count) (recording_at there)) (sym (set_there here.clients count None found many lt))
    (gone_file now behind (slice_index numbers count) (place_at here count))) numbered

-- ---- the acts so far

pub ends_more : {told mid now : Option Told} {given between behind faults faults' faults'' write_faults write_faults' write_faults'' : ℕ} {result : Result (Unit {0}) Failed} (start : Ends) (count : ℕ)
    → count < length start.clients → WritesFiles told mid given between faults faults' write_faults write_faults' (ended_acts start count) (Ok tt)
    → WritesFiles mid now between behind faults' faults'' write_faults' write_faults'' (stop_acts (place_at start count)) result
    → WritesFiles told now given behind faults faults'' write_faults write_faults'' (ended_acts start (count + 1)) result
ends_more {told} {mid} {now} {given} {between} {behind} {faults} {faults'} {faults''} {write_faults} {write_faults'} {write_faults''} {result} start count lt before after =
    subst (λ (acts : List FileAct). WritesFiles told now given behind faults faults'' write_faults write_faults'' acts result) (sym (ended_one start count lt)) (writes_both before after)

pub ends_early : {told now : Option Told} {given behind faults faults' write_faults write_faults' : ℕ} {e : Failed} (start : Ends) (count : ℕ)
    → WritesFiles told now given behind faults faults' write_faults write_faults' (ended_acts start count) (Err e)
    → WritesFiles told now given behind faults faults' write_faults write_faults' (ending_acts start) (Err e)
ends_early {told} {now} {given} {behind} {faults} {faults'} {write_faults} {write_faults'} {e} start count is =
    subst (λ (acts : List FileAct). WritesFiles told now given behind faults faults' write_faults write_faults' acts (Err e)) (sym (ended_rest start count))
    (writes_more (flat_map stop_acts (drop count start.clients)) is)

pub ends_all : {told now : Option Told} {given behind faults faults' write_faults write_faults' : ℕ} (start : Ends) (count : ℕ) → length start.clients ≤ count
    → WritesFiles told now given behind faults faults' write_faults write_faults' (ended_acts start count) (Ok tt)
    → WritesFiles told now given behind faults faults' write_faults write_faults' (ending_acts start) (Ok tt)
ends_all {told} {now} {given} {behind} {faults} {faults'} {write_faults} {write_faults'} start count le is =
    subst (λ (clients : List (Option Place)). WritesFiles told now given behind faults faults' write_faults write_faults' (flat_map stop_acts clients) (Ok tt)) (take_all count start.clients le) is
