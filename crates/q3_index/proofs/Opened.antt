-- An index is opened: its head, its checkpoints, and whether it is the demo's.
use Rattle.std.proofs.Common.{◌≡◌, ◌≢◌, ℕ, true, false, List, length, Option, Some, Result, Ok, Err, refl, sym, ap, subst, ◌∙◌, eq-eqb, ne_eqb}
use Rattle.std.specs.Prelude.{◌⊎◌, ◌==◌, ◌&&◌}
use Rattle.std.proofs.lemmas.Bool.{and_left, and_right, and_from}
use Rattle.std.proofs.Common.{inl, inr}
use Rattle.q3_bits.specs.ResultBind.{◌>>=◌, fault_as}
use Rattle.q3_bits.proofs.Binds.{bind_is}
use Rattle.q3_io.specs.Told.{Told, Measures, contents_at}
use Rattle.q3_demo.specs.Running.{OnlyAsks}
use Rattle.q3_savestate.specs.Cursor.{Cursor, Field}
use Rattle.q3_index.specs.declared.error.IndexError.{IndexError}
use Rattle.q3_index.specs.declared.error.IndexError.TheVariants.{ReadFault, NotIndex, OtherDemo, OtherWidth, NoMemory}
use Rattle.q3_index.specs.declared.index.Checkpoint.{Checkpoint}
use Rattle.q3_index.specs.declared.opening.Head.{Head}
use Rattle.q3_index.specs.Opening.{Heads, head_at, heads_at, checkpoints_of, matching, open_at}
use Rattle.q3_index.specs.Running.{IndexState, Opens}
use Rattle.q3_index.specs.Steps.{from_place, head_size, Reads}
use Rattle.q3_index.proofs.Seeking.{told_later}

-- ---- the heads

heads_of : Head → List Checkpoint → Heads
heads_of head checkpoints = record { length = head.length; mark = head.mark; width = head.width; records = head.records; checkpoints = checkpoints }

with_checkpoints : Head × Cursor → Result Heads ℕ
with_checkpoints head = checkpoints_of head.0 head.1 >>= λ checkpoints. Ok (heads_of head.0 checkpoints)

heads_is : (bytes : List ℕ) → heads_at bytes ≡ (head_at (from_place bytes 0) >>= with_checkpoints)
unfolding heads_at with_checkpoints heads_of
heads_is bytes = refl

-- the head is refused, or the checkpoints after it are, or both are found
head_wrong : (bytes : List ℕ) (place : ℕ) → head_at (from_place bytes 0) ≡ Err place → heads_at bytes ≡ Err place
head_wrong bytes place is = heads_is bytes ∙ ap (λ (r : Field Head). r >>= with_checkpoints) is

list_wrong : (bytes : List ℕ) (head : Head) (place : ℕ) → head_at (from_place bytes 0) ≡ Ok (head, from_place bytes (head_size head.version))
    → checkpoints_of head (from_place bytes (head_size head.version)) ≡ Err place → heads_at bytes ≡ Err place
unfolding with_checkpoints
list_wrong bytes head place is stops =
    heads_is bytes
    ∙ bind_is (head_at (from_place bytes 0)) with_checkpoints (head, from_place bytes (head_size head.version)) (Err place) is
    (ap (λ (r : Result (List Checkpoint) ℕ). r >>= λ checkpoints. Ok (heads_of head checkpoints)) stops)

both_found : (bytes : List ℕ) (head : Head) (checkpoints : List Checkpoint) → head_at (from_place bytes 0) ≡ Ok (head, from_place bytes (head_size head.version))
    → checkpoints_of head (from_place bytes (head_size head.version)) ≡ Ok checkpoints → heads_at bytes ≡ Ok (heads_of head checkpoints)
unfolding with_checkpoints
both_found bytes head checkpoints is found =
    heads_is bytes
    ∙ bind_is (head_at (from_place bytes 0)) with_checkpoints (head, from_place bytes (head_size head.version)) (Ok (heads_of head checkpoints)) is
    (ap (λ (r : Result (List Checkpoint) ℕ). r >>= λ checkpoints. Ok (heads_of head checkpoints)) found)

-- ---- whether it is the demo's

open_wrong : (length mark width : ℕ) (bytes : List ℕ) (place : ℕ) → heads_at bytes ≡ Err place → open_at length mark width bytes ≡ Err (NotIndex place)
open_wrong length mark width bytes place is = ap (λ (r : Result Heads ℕ). fault_as NotIndex r >>= matching length mark width) is

open_as : (length mark width : ℕ) (bytes : List ℕ) (heads : Heads) → heads_at bytes ≡ Ok heads → open_at length mark width bytes ≡ matching length mark width heads
open_as length mark width bytes heads is = ap (λ (r : Result Heads ℕ). fault_as NotIndex r >>= matching length mark width) is

-- its length and its mark are the demo's
of_demo : (length mark : ℕ) (heads : Heads) → heads.length ≡ length → heads.mark ≡ mark → ((heads.length == length) && (heads.mark == mark)) ≡ true
of_demo length mark heads same_length same_mark = and_from (heads.length == length) (heads.mark == mark) (eq-eqb heads.length length same_length) (eq-eqb heads.mark mark same_mark)

matches : (length mark width : ℕ) (heads : Heads) → heads.length ≡ length → heads.mark ≡ mark → heads.width ≡ width → matching length mark width heads ≡ Ok heads
matches length mark width heads same_length same_mark same_width = rw (of_demo length mark heads same_length same_mark, eq-eqb heads.width width same_width) refl

-- the number of an entity has another number of bits
wider : (length mark width : ℕ) (heads : Heads) → heads.length ≡ length → heads.mark ≡ mark → heads.width ≢ width → matching length mark width heads ≡ Err (OtherWidth heads.width width)
wider length mark width heads same_length same_mark other = rw (of_demo length mark heads same_length same_mark, ne_eqb heads.width width other) refl

differs : (length mark width : ℕ) (heads : Heads) → (heads.length ≢ length) ⊎ (heads.mark ≢ mark) → matching length mark width heads ≡ Err (OtherDemo (heads.length, heads.mark) (length, mark))
differs length mark width heads apart =
    let test : ((heads.length == length) && (heads.mark == mark)) ≡ false = elim apart [
      | inl other ↦ and_left (heads.length == length) (heads.mark == mark) (ne_eqb heads.length length other)
      | inr other ↦ and_right (heads.length == length) (heads.mark == mark) (ne_eqb heads.mark mark other)
    ] in
    rw test refl

-- ---- files as they are told

-- both sizes were told, and nothing changed
record AreSizes (now : Option Told) (told : Told) (demo index size end : ℕ) : Type 0 where
  same : now ≡ Some told
  size_is : size ≡ length (contents_at told demo)
  end_is : end ≡ length (contents_at told index)

measured : (before now : Option Told) (file size : ℕ) → Measures before now file (Ok size) → (told : Told) → before ≡ Some told → (now ≡ Some told) × (size ≡ length (contents_at told file))
measured before now file size measures told is = subst (λ (t : Option Told). Measures t now file (Ok size)) is measures

sizes : (before mid now : Option Told) (demo index size end : ℕ) → Measures before mid demo (Ok size) → Measures mid now index (Ok end) → (told : Told) → before ≡ Some told
    → AreSizes now told demo index size end
sizes before mid now demo index size end first second told is =
    let one = measured before mid demo size first told is in
    let two = measured mid now index end second told one.0 in
    record { same = two.0; size_is = one.1; end_is = two.1 }

opens_wrong : {X Y : Type 0} (value : Y → X) (whole : Result X ℕ) (demo index length mark width : ℕ) (bytes : List ℕ) (e : IndexError) → ((place : ℕ) → whole ≡ Err place → heads_at bytes ≡ Err place)
    → Reads value whole (Err e) → Opens demo index (open_at length mark width bytes) (Err e)
opens_wrong value whole demo index length mark width bytes ReadFault alike reads = tt
opens_wrong value whole demo index length mark width bytes (NotIndex place) alike reads = open_wrong length mark width bytes place (alike place reads)
opens_wrong value whole demo index length mark width bytes (OtherDemo kept found) alike reads = absurd reads
opens_wrong value whole demo index length mark width bytes (OtherWidth kept found) alike reads = absurd reads
opens_wrong value whole demo index length mark width bytes NoMemory alike reads = tt

-- the head is read as files are told
abbrev pub ReadsHead : Option Told → ℕ → ℕ → Result Head IndexError → Type 0
ReadsHead now index end result = (told : Told) → now ≡ Some told → end ≡ length (contents_at told index)
    → Reads (λ head. (head, from_place (contents_at told index) (head_size head.version))) (head_at (from_place (contents_at told index) 0)) result

-- and the checkpoints are
abbrev pub ReadsList : {Y : Type 0} → (Y → List Checkpoint) → Option Told → ℕ → ℕ → Head → Result Y IndexError → Type 0
ReadsList value now index end head result = (told : Told) → now ≡ Some told → end ≡ length (contents_at told index)
    → Reads value (checkpoints_of head (from_place (contents_at told index) (head_size head.version))) result

-- so it is opened
abbrev pub OpensAs : Option Told → ℕ → ℕ → ℕ → ℕ → Result IndexState IndexError → Type 0
OpensAs before mark width demo index result = (told : Told) → before ≡ Some told → Opens demo index (open_at (length (contents_at told demo)) mark width (contents_at told index)) result

pub no_head : (before mid now : Option Told) (mark width demo index size end : ℕ) (e : IndexError) → Measures before mid demo (Ok size) → Measures mid now index (Ok end) → ReadsHead now index end (Err e)
    → OpensAs before mark width demo index (Err e)
no_head before mid now mark width demo index size end e first second reads told is =
    let here = sizes before mid now demo index size end first second told is in
    let bytes : List ℕ = contents_at told index in
    opens_wrong (λ (head : Head). (head, from_place bytes (head_size head.version))) (head_at (from_place bytes 0)) demo index (length (contents_at told demo)) mark width bytes e
    (λ place stops. head_wrong bytes place stops) (reads told here.same here.end_is)

pub no_list : {Y : Type 0} (value : Y → List Checkpoint) (before mid now later : Option Told) (mark width demo index size end : ℕ) (head : Head) (e : IndexError) → Measures before mid demo (Ok size)
    → Measures mid now index (Ok end) → ReadsHead now index end (Ok head) → OnlyAsks now later → ReadsList value later index end head (Err e) → OpensAs before mark width demo index (Err e)
no_list value before mid now later mark width demo index size end head e first second reads asks list told is =
    let here = sizes before mid now demo index size end first second told is in
    let after = told_later now later told asks here.same in
    let bytes : List ℕ = contents_at told index in
    opens_wrong value (checkpoints_of head (from_place bytes (head_size head.version))) demo index (length (contents_at told demo)) mark width bytes e
    (λ place stops. list_wrong bytes head place (reads told here.same here.end_is) stops) (list (record told { asked = after.0 }) after.1 here.end_is)

-- both are read
all_read : {Y : Type 0} (value : Y → List Checkpoint) (later : Option Told) (told now : Told) (index end : ℕ) (head : Head) (y : Y) → end ≡ length (contents_at told index)
    → contents_at now index ≡ contents_at told index → later ≡ Some now → head_at (from_place (contents_at told index) 0) ≡ Ok (head, from_place (contents_at told index) (head_size head.version))
    → ReadsList value later index end head (Ok y) → heads_at (contents_at told index) ≡ Ok (heads_of head (value y))
all_read value later told now index end head y end_is same is found list =
    let bytes : List ℕ = contents_at told index in
    let at : ℕ = head_size head.version in
    let listed : checkpoints_of head (from_place (contents_at now index) at) ≡ Ok (value y) = list now is (end_is ∙ ap length (sym same)) in
    both_found bytes head (value y) found (ap (λ (b : List ℕ). checkpoints_of head (from_place b at)) (sym same) ∙ listed)

-- so its heads are matched with the demo's
record AreMatched (before : Option Told) (mark width demo index size : ℕ) (heads : Heads) : Type 0 where
  is : (told : Told) → before ≡ Some told → open_at (length (contents_at told demo)) mark width (contents_at told index) ≡ matching size mark width heads

are_matched : {Y : Type 0} (value : Y → List Checkpoint) (before mid now later : Option Told) (mark width demo index size end : ℕ) (head : Head) (y : Y) → Measures before mid demo (Ok size)
    → Measures mid now index (Ok end) → ReadsHead now index end (Ok head) → OnlyAsks now later → ReadsList value later index end head (Ok y)
    → AreMatched before mark width demo index size (heads_of head (value y))
are_matched value before mid now later mark width demo index size end head y first second reads asks list = record {
  is = λ told is.
      let here = sizes before mid now demo index size end first second told is in
      let after = told_later now later told asks here.same in
      let heads = all_read value later told (record told { asked = after.0 }) index end head y here.end_is refl after.1 (reads told here.same here.end_is) list in
      rw (sym here.size_is) (open_as size mark width (contents_at told index) (heads_of head (value y)) heads);
}

pub other_demo : {Y : Type 0} (value : Y → List Checkpoint) (before mid now later : Option Told) (mark width demo index size end : ℕ) (head : Head) (y : Y) → Measures before mid demo (Ok size)
    → Measures mid now index (Ok end) → ReadsHead now index end (Ok head) → OnlyAsks now later → ReadsList value later index end head (Ok y) → (head.length ≢ size) ⊎ (head.mark ≢ mark)
    → OpensAs before mark width demo index (Err (OtherDemo (head.length, head.mark) (size, mark)))
unfolding heads_of
other_demo value before mid now later mark width demo index size end head y first second reads asks list apart told is =
    (are_matched value before mid now later mark width demo index size end head y first second reads asks list).is told is ∙ differs size mark width (heads_of head (value y)) apart

pub other_width : {Y : Type 0} (value : Y → List Checkpoint) (before mid now later : Option Told) (mark width demo index size end : ℕ) (head : Head) (y : Y) → Measures before mid demo (Ok size)
    → Measures mid now index (Ok end) → ReadsHead now index end (Ok head) → OnlyAsks now later → ReadsList value later index end head (Ok y) → head.length ≡ size → head.mark ≡ mark
    → head.width ≢ width → OpensAs before mark width demo index (Err (OtherWidth head.width width))
unfolding heads_of
other_width value before mid now later mark width demo index size end head y first second reads asks list same_length same_mark other told is =
    (are_matched value before mid now later mark width demo index size end head y first second reads asks list).is told is
    ∙ wider size mark width (heads_of head (value y)) same_length same_mark other

pub it_opens : {Y : Type 0} (value : Y → List Checkpoint) (before mid now later : Option Told) (mark width demo index size end : ℕ) (head : Head) (y : Y) (state : IndexState) → Measures before mid demo (Ok size)
    → Measures mid now index (Ok end) → ReadsHead now index end (Ok head) → OnlyAsks now later → ReadsList value later index end head (Ok y) → head.length ≡ size → head.mark ≡ mark
    → head.width ≡ width → state ≡ record { demo = demo; index = index; records = head.records; checkpoints = value y } → OpensAs before mark width demo index (Ok state)
unfolding heads_of
it_opens value before mid now later mark width demo index size end head y state first second reads asks list same_length same_mark same_width state_is told is = (
  heads_of head (value y),
  (are_matched value before mid now later mark width demo index size end head y first second reads asks list).is told is
      ∙ matches size mark width (heads_of head (value y)) same_length same_mark same_width,
  state_is,
)
