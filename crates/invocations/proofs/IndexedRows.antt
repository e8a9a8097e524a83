-- Rows with their indexes, after a change.
use Rattle.std.proofs.Common.{◌≡◌, ◌<◌, ℕ, zero, suc, List, [], ◌∷◌, ◌++◌, length, get_or, set, Contains, Some, None, refl, sym, ap, ◌∙◌, subst}
use Rattle.std.specs.List.{slice_get}
use Rattle.std.proofs.lemmas.List.{map-set, map_push}
use Rattle.std.proofs.lemmas.Option.{same_Some}
use Rattle.names_realms.specs.declared.states.State.{State}
use Rattle.names_realms.specs.declared.states.State.TheVariants.{Active}
use Rattle.invocations.specs.declared.due.Due.{Due}
use Rattle.invocations.specs.declared.invocation.Invocation.{Invocation}
use Rattle.hash_chains.specs.Chains.{ChainsState}
use Rattle.invocations.specs.Hashes.{hash_of, hashes_of}
use Rattle.invocations.specs.Rows.{ids_of, HasId, IsInState}
use Rattle.invocations.specs.Orders.{IsDueIndex, IsIndexed, deadline_in, deadlines_of}
use Rattle.invocations.proofs.OrderedRows.{due_same}
use Rattle.invocations.proofs.RowLemmas.{changed_is, ids_stay, table_set, table_push}

pub state_of : (state : State) (rows : List Invocation) (place : ℕ) (row : Invocation) → IsInState state rows place
    → row ≡ get_or rows place row → row.state ≡ state
state_of state [] place row e is = let no : None ≡ Some state = e in cc
state_of state (x ∷ xs) zero row e is = ap (λ (r : Invocation). r.state) is ∙ same_Some x.state state e
state_of state (x ∷ xs) (suc place) row e is = state_of state xs place row e is

pub deadline_of : (rows : List Invocation) (place : ℕ) (row : Invocation) → IsInState Active rows place → row ≡ get_or rows place row
    → slice_get (deadlines_of rows) place ≡ Some (Some row.deadline)
deadline_of [] place row e is = let no : None ≡ Some Active = e in cc
deadline_of (x ∷ xs) zero row e is =
    ap (λ s. Some (deadline_in s x.deadline)) (same_Some x.state Active e) ∙ ap (λ (r : Invocation). Some (Some r.deadline)) (sym is)
deadline_of (x ∷ xs) (suc place) row e is = deadline_of xs place row e is

pub deadlines_same : (rows : List Invocation) (place : ℕ) (row new : Invocation) → row ≡ get_or rows place row
    → deadline_in new.state new.deadline ≡ deadline_in row.state row.deadline → deadlines_of (set rows place new) ≡ deadlines_of rows
deadlines_same [] place row new is same = refl
deadlines_same (x ∷ xs) zero row new is same =
    ap (λ o. o ∷ deadlines_of xs) (same ∙ ap (λ (r : Invocation). deadline_in r.state r.deadline) is)
deadlines_same (x ∷ xs) (suc place) row new is same =
    ap (λ os. deadline_in x.state x.deadline ∷ os) (deadlines_same xs place row new is same)

pub deadlines_set : (rows : List Invocation) (place : ℕ) (new : Invocation)
    → deadlines_of (set rows place new) ≡ set (deadlines_of rows) place (deadline_in new.state new.deadline)
deadlines_set rows place new = map-set (λ (row : Invocation). deadline_in row.state row.deadline) rows place new

pub indexed_set : (change : Invocation → Invocation) → ((row : Invocation) → (change row).id ≡ row.id)
    → (rows : List Invocation) (chains : ChainsState) (entries new : List Due) (place : ℕ) (row : Invocation) → row ≡ get_or rows place row
    → IsIndexed rows chains entries → IsDueIndex (deadlines_of (set rows place (change row))) new
    → IsIndexed (set rows place (change row)) chains new
indexed_set change same rows chains entries new place row is indexed due = record {
  table = table_set change same rows place row is indexed.table;
  ids = indexed.ids ∙ ap (λ ids. hashes_of ids)
      (sym (ap ids_of (changed_is change rows place row is) ∙ ids_stay change same rows place));
  due = due;
}

-- a change that leaves the deadlines of the active rows
pub indexed_beside : (change : Invocation → Invocation) → ((row : Invocation) → (change row).id ≡ row.id)
    → (rows : List Invocation) (chains : ChainsState) (entries : List Due) (place : ℕ) (row : Invocation) → row ≡ get_or rows place row
    → deadline_in (change row).state (change row).deadline ≡ deadline_in row.state row.deadline
    → IsIndexed rows chains entries → IsIndexed (set rows place (change row)) chains entries
indexed_beside change same rows chains entries place row is stays indexed =
    indexed_set change same rows chains entries entries place row is indexed
    (subst (λ ds. IsDueIndex ds entries) (sym (deadlines_same rows place row (change row) is stays)) indexed.due)

pub indexed_push : (rows : List Invocation) (row : Invocation) (chains new : ChainsState) (entries newer : List Due) → IsIndexed rows chains entries
    → (¬ HasId rows row.id) → length rows < 65_536 → new.hashes ≡ chains.hashes ++ hash_of row.id ∷ []
    → IsDueIndex (deadlines_of rows ++ deadline_in row.state row.deadline ∷ []) newer → IsIndexed (rows ++ row ∷ []) new newer
indexed_push rows row chains new entries newer indexed free few ids due = record {
  table = table_push rows row indexed.table free few;
  ids = ids ∙ ap (λ hs. hs ++ hash_of row.id ∷ []) indexed.ids
      ∙ sym (ap (λ xs. hashes_of xs) (map_push (λ (r : Invocation). r.id) rows row) ∙ map_push hash_of (ids_of rows) row.id);
  due = subst (λ ds. IsDueIndex ds newer) (sym (map_push (λ (r : Invocation). deadline_in r.state r.deadline) rows row)) due;
}

pub same_entry : (rows : List Invocation) (entries : List Due) (due to : Due) → IsDueIndex (deadlines_of rows) entries
    → slice_get (deadlines_of rows) due.place ≡ Some (Some due.deadline) → to.place ≡ due.place → Contains entries to → to ≡ due
same_entry rows entries due to index at place held =
    let both : Some (Some to.deadline) ≡ Some (Some due.deadline) =
    sym ((index.all to).0 held) ∙ ap (slice_get (deadlines_of rows)) place ∙ at in
    due_same to due (same_Some to.deadline due.deadline (same_Some (Some to.deadline) (Some due.deadline) both)) place
