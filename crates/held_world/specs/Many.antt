-- What many questions at once come to, which are answered in order up to the first that is refused.
use Rattle.std.specs.Prelude.{◌≡◌, ◌≢◌, ◌⊎◌, ℕ, pos, ◌+◌, ◌<◌, ◌≤◌, Bool, true, false, List, [], ◌∷◌, ◌++◌, length, take, drop, get_or, Option, None, Some, is_some}
use Rattle.broad_index.specs.declared.query.Query.{Query}
use Rattle.live_table.specs.declared.handle.Handle.{Handle}
use Rattle.live_table.specs.declared.live.Live.{Live}
use Rattle.live_queries.specs.Pairs.{hits_of}
use Rattle.held_world.specs.declared.TheConstants.{OK, NO_MEMORY, ARGUMENT, LOWER, NO_AXIS}
use Rattle.held_world.specs.declared.answers.Reply.{Reply}
use Rattle.held_world.specs.declared.plain.PwHandle.{PwHandle}
use Rattle.held_world.specs.declared.plain.PwHit.{PwHit}
use Rattle.held_world.specs.declared.plain.PwQuery.{PwQuery}
use Rattle.held_world.specs.Copies.{copied}
use Rattle.held_world.specs.Plain.{groups_in, handle_out, query_in}

-- ---- first hits
-- what the room has where nothing is met: the handle of no box
abbrev pub no_hit : PwHit
no_hit = record { handle = record { slot = 4294967295; generation = 4294967295 }; num = pos 0; den = pos 1; axis = NO_AXIS; side = LOWER }

-- A question for a first hit was answered by this.
pub record IsAnswered (Says : Reply → PwHit → PwHit → Type 0) (hit : PwHit) : Type 0 where
  pub met : ℕ
  pub told : Says (record { status = OK; count = met }) no_hit hit

-- A question was refused with this status, and those after it weren't asked.
pub record IsRefused (Says : Reply → PwHit → PwHit → Type 0) (status : ℕ) : Type 0 where
  pub met : ℕ
  pub left : PwHit
  pub why : status ≢ OK
  pub told : Says (record { status = status; count = met }) no_hit left

-- Each question has its answer at its place, as many as the count tells; the rest of the room is as it was.
pub record AnswersEach {A : Type 0} (Says : A → Reply → PwHit → PwHit → Type 0) (asked : List A) (reply : Reply) (room out : List PwHit) : Type 0 where
  pub most : reply.count ≤ length asked
  pub each : (k : ℕ) (d : A) → k < reply.count → IsAnswered (Says (get_or asked k d)) (get_or out k no_hit)
  pub rest : drop reply.count out ≡ drop reply.count room
  pub ended : ((reply.status ≡ OK) × (reply.count ≡ length asked))
      ⊎ ((reply.count < length asked) × ((d : A) → IsRefused (Says (get_or asked reply.count d)) reply.status))

-- The same, where there is room for all answers. Else nothing is asked.
pub record AsksEach {A : Type 0} (Says : A → Reply → PwHit → PwHit → Type 0) (asked : List A) (reply : Reply) (room out : List PwHit) : Type 0 where
  pub short : length room < length asked → (reply ≡ record { status = ARGUMENT; count = 0 }) × (out ≡ room)
  pub enough : length asked ≤ length room → AnswersEach Says asked reply room out

-- ---- all hits
-- the boxes that meet a question, which is known or is none, of the groups that its mask asks for
abbrev pub hits_for : List Live → ℕ → Option Query → List Handle
hits_for entries mask None = []
hits_for entries mask (Some asked) = hits_of entries asked (groups_in mask)

abbrev pub hits_in : List Live → PwQuery → List Handle
hits_in entries query = hits_for entries query.mask (query_in query)

-- those of several questions, one answer after another
unfoldable pub hits_in_all : List Live → List PwQuery → List Handle
hits_in_all entries [] = []
hits_in_all entries (query ∷ queries) = hits_in entries query ++ hits_in_all entries queries

-- why a question isn't answered
abbrev pub IsNoAnswer : PwQuery → ℕ → Type 0
IsNoAnswer query status = ((status ≡ ARGUMENT) × (query_in query ≡ None)) ⊎ ((status ≡ NO_MEMORY) × (is_some (query_in query) ≡ true))

-- The answers stand one behind another, as far as there is room, and where each ends is told, for as many questions as the count tells.
pub record AnswersAll (entries : List Live) (spent : Bool) (queries : List PwQuery) (reply : Reply) (room out : List PwHandle) (before ends : List ℕ) : Type 0 where
  pub most : reply.count ≤ length queries
  pub asked : (k : ℕ) (d : PwQuery) → k < reply.count → is_some (query_in (get_or queries k d)) ≡ true
  pub sound : 0 < reply.count → spent ≡ false
  pub copied : out ≡ copied handle_out (hits_in_all entries (take reply.count queries)) room
  pub ends_at : (k : ℕ) → k < reply.count → get_or ends k 0 ≡ length (hits_in_all entries (take (k + 1) queries))
  pub rest : drop reply.count ends ≡ drop reply.count before
  pub ended : ((reply.status ≡ OK) × (reply.count ≡ length queries))
      ⊎ ((reply.count < length queries) × ((d : PwQuery) → IsNoAnswer (get_or queries reply.count d) reply.status))

-- The same, where there is room for all ends. Else nothing is asked.
pub record AsksAll (entries : List Live) (spent : Bool) (queries : List PwQuery) (reply : Reply) (room out : List PwHandle) (before ends : List ℕ) : Type 0 where
  pub short : length before < length queries → (reply ≡ record { status = ARGUMENT; count = 0 }) × ((out ≡ room) × (ends ≡ before))
  pub enough : length queries ≤ length before → AnswersAll entries spent queries reply room out before ends
