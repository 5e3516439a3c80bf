-- Bridge: how a list is stored in chunks, and the room that is made for an edit of it.
use Rattle.std.specs.Prelude.{◌≡◌, ℕ, ◌+◌, ◌-◌, ◌*◌, ◌^◌, ◌<◌, ◌≤◌, List, [], length, take, min, All, Vec, vec_len, vec_capacity, slice_get, slice_index, Option, Some, None}
use Rattle.std.specs.List.{flat_map, splice}
use Rattle.yl_text.specs.Store.{IsRange}
use Rattle.yl_chunks.specs.declared.TheConstants.{MOST}
use Rattle.yl_chunks.specs.declared.places.Place.{Place}
use Rattle.yl_chunks.specs.declared.places.Starts.{Starts}
use Rattle.yl_chunks.specs.declared.room.Fresh.{Fresh}
use Rattle.yl_chunks.specs.declared.room.Prepared.{Prepared}

-- room for replacing the items a to b, b not included, by `count` items
pub record Room : Type 0 where
  pub a : ℕ
  pub b : ℕ
  pub count : ℕ

-- a list, and the room that is made for an edit of it, if any
pub record ListValue (T : Type 0) : Type 0 where
  pub items : List T
  pub room : Option Room

-- the items of the chunks, one chunk after another
abbrev pub items_of : {T A : Type 0} → List (Vec T A) → List T
items_of = flat_map (λ c. c.items)

-- a chunk has 1 to `MOST` items
abbrev pub IsFilled : {T A : Type 0} → Vec T A → Type 0
IsFilled c = (0 < length c.items) × (length c.items ≤ MOST)

-- a chunk is empty, with capacity for n items
abbrev pub HasRoom : {T A : Type 0} → ℕ → Vec T A → Type 0
HasRoom n c = (c.items ≡ []) × (n ≤ vec_capacity c)

-- the number of items of the chunks, and an offset for each chunk: the number of items before it,
-- or, from the chunk `turned` on, the number of items from it on
pub record ArePlaces {T A : Type 0} (chunks : List (Vec T A)) (places : List ℕ) (turned len : ℕ) : Type 0 where
  pub counted : length places ≡ length chunks
  pub within : turned ≤ length chunks
  pub whole : len ≡ length (items_of chunks)
  pub before : (j : ℕ) → j < length chunks → j < turned → slice_index places j ≡ length (items_of (take j chunks))
  pub behind : (j : ℕ) → j < length chunks → turned ≤ j → slice_index places j + length (items_of (take j chunks)) ≡ len

abbrev pub AreStarts : {T A : Type 0} → List (Vec T A) → Starts A → Type 0
AreStarts chunks s = ArePlaces chunks s.places.items s.turned s.len

-- chunks that have 1 to `MOST` items, and the offsets at which they begin
pub record AreChunks {T A : Type 0} (chunks : List (Vec T A)) (starts : Starts A) : Type 0 where
  pub filled : All IsFilled chunks
  pub begin : AreStarts chunks starts

-- the chunks from `first` to `end`, `end` not included, have `count` items, and a to b is a range
-- of these
pub record IsPlace {T A : Type 0} (chunks : List (Vec T A)) (p : Place) : Type 0 where
  pub ordered : p.first ≤ p.end
  pub within : p.end ≤ length chunks
  pub count : length (items_of (take p.first chunks)) + p.count ≡ length (items_of (take p.end chunks))
  pub range : IsRange p.a p.b p.count

-- the index in the list of item i of the place's chunks
abbrev pub in_list : {T A : Type 0} → List (Vec T A) → Place → ℕ → ℕ
in_list chunks p i = length (items_of (take p.first chunks)) + i

-- the list with these items in place of those of the place
abbrev pub put_at : {T A : Type 0} → List (Vec T A) → Place → List T → List T
put_at chunks p new = splice (items_of chunks) (in_list chunks p p.a) (in_list chunks p p.b) new

-- the number of items of the chunks of a place after `count` items replace those of the place
abbrev pub left_with : Place → ℕ → ℕ
left_with p count = p.count - (p.b - p.a) + count

-- the place has one chunk, which has capacity for `count` more items and is left with 1 to `MOST`
-- items
pub record HasChunk {T A : Type 0} (chunks : List (Vec T A)) (p : Place) (count : ℕ) : Type 0 where
  pub one : p.end ≡ p.first + 1
  pub some : 0 < left_with p count
  pub most : left_with p count ≤ MOST
  pub capacity : (c : Vec T A) → slice_get chunks p.first ≡ Some c → vec_len c + count ≤ vec_capacity c

-- there are empty chunks for the items that the chunks of a place have after `count` items replace
-- its own, and capacity for moving them
pub record HasFresh {T A : Type 0} (chunks : Vec (Vec T A) A) (places : Vec ℕ A) (p : Place) (count : ℕ) (fresh : Fresh T A) : Type 0 where
  pub empty : fresh.items.items ≡ []
  pub items_room : p.count + count ≤ vec_capacity fresh.items
  pub each_room : All (HasRoom (min MOST (left_with p count))) fresh.chunks.items
  pub enough : vec_len fresh.chunks ≤ left_with p count
  pub few : left_with p count ≤ MOST * vec_len fresh.chunks
  pub chunks_room : vec_len chunks + vec_len fresh.chunks ≤ vec_capacity chunks
  pub places_room : vec_len chunks + vec_len fresh.chunks ≤ vec_capacity places

abbrev pub HasEither : {T A : Type 0} → Vec (Vec T A) A → Vec ℕ A → Place → ℕ → Option (Fresh T A) → Type 0
HasEither chunks places p count None = HasChunk chunks.items p count
HasEither chunks places p count (Some fresh) = HasFresh chunks places p count fresh

-- what was prepared is enough for an edit of these chunks
pub record IsPrepared {T A : Type 0} (chunks : Vec (Vec T A) A) (places : Vec ℕ A) (r : Prepared T A) : Type 0 where
  pub place : IsPlace chunks.items r.place
  pub few : length (items_of chunks.items) + r.count < 2 ^ 64
  pub either : HasEither chunks places r.place r.count r.fresh

abbrev pub IsPreparedIfAny : {T A : Type 0} → Vec (Vec T A) A → Vec ℕ A → Option (Prepared T A) → Type 0
IsPreparedIfAny chunks places None = Unit {0}
IsPreparedIfAny chunks places (Some r) = IsPrepared chunks places r

-- what was prepared for these chunks, as room in their list
abbrev pub room_of : {T A : Type 0} → List (Vec T A) → Option (Prepared T A) → Option Room
room_of chunks None = None
room_of chunks (Some r) = Some (record { a = in_list chunks r.place r.place.a; b = in_list chunks r.place r.place.b; count = r.count })
