-- Every history through the layer is one of the store; and what a tenant's turn leaves of the blocks that are not its own.
use Rattle.std.specs.Prelude.{ℕ, ◌≡◌, refl, ◌⊎◌, ◌≢◌, Bool, List, [], ◌∷◌}
use Rattle.std.proofs.Common.{ap, ◌∙◌, subst, inl, inr}
use Rattle.model.specs.Chip.{Image}
use Rattle.model.specs.State.{clean}
use Rattle.model.specs.Table.{Table, Found, lookup}
use Rattle.model.specs.Histories.{Seen, Does, wears, Event, History, shown}
use Rattle.crash.specs.Machine.{Board, Promise, settled, interrupted, unknown, OnTable, Moves}
use Rattle.crash.specs.Invariant.{Invariant, Follows}
use Rattle.crash.proofs.Requests.{shown_clean}
use Rattle.crash.proofs.Skeleton.{May, one_event}
use Rattle.crash.proofs.ReadingRuns.{Shows, Spares, runs_keep}
use Rattle.crash.proofs.Theorem.{request_laws}
use Rattle.shares.specs.Layer.{Asked, puts, deletes, reads, block_asked, store_request}
use Rattle.isolation.specs.Law.{Call, ProperAsked, Turn, tenant, store, Through, Passed, ByLayer}
use Rattle.isolation.proofs.Meeting.{Asks, event}

-- ---- the events at the store

pub layer_history : (N B : ℕ) (ns : List ℕ) (ts : List Turn) (s u : Image) → Through N B ns s ts u → (es : List Event) × Passed ts es × History N B s es u
layer_history N B ns [] s u h = ([], refl, h)
layer_history N B ns (store e ∷ ts) s u (p, w, (m, d, rest)) =
    let ih = layer_history N B ns ts m u rest in
    (e ∷ ih.0, (ih.0, refl, ih.1), (p, w, (m, d, ih.2)))
layer_history N B ns (tenant x o ∷ ts) s u (p, (m, h, rest)) = go (event N B ns x s o m h) (layer_history N B ns ts m u rest)
  where
    go : (ByLayer o × (m ≡ s)) ⊎ Does N B (store_request x.asked) o s m → (es : List Event) × Passed ts es × History N B m es u → (es : List Event) × Passed (tenant x o ∷ ts) es × History N B s es u
    go (inl (n, e)) ih = (ih.0, inl (n, ih.1), subst (λ (y : Image). History N B y ih.0 u) e ih.2)
    go (inr d) ih =
        let e : Event = record { request = store_request x.asked; worn = wears N B s; seen = o } in
        (e ∷ ih.0, inr (e, ih.0, refl, refl, refl, ih.1), (p, refl, (m, d, ih.2)))

-- ---- other blocks

-- a tenant asks for no format
pub asked_on : (r : Asked) → OnTable (store_request r)
unfolding store_request
asked_on (puts b c) = tt
asked_on (deletes b) = tt
asked_on (reads b size) = tt

asked_may : (N B : ℕ) (f : Bool) (r : Asked) → May N B f (request_laws N B) (store_request r)
unfolding store_request
asked_may N B f (puts b c) = tt
asked_may N B f (deletes b) = tt
asked_may N B f (reads b size) = tt

-- and leaves alone what it does not ask for
pub asked_spares : (r : Asked) (b : ℕ) → b ≢ block_asked r → Spares b (store_request r)
unfolding store_request block_asked
asked_spares (puts a c) b n = inl n
asked_spares (deletes a) b n = n
asked_spares (reads a size) b n = tt

-- one turn of a tenant that the store accepts, from any promise
pub asked_moves : (N B : ℕ) (f : Bool) (ns : List ℕ) (x : Call) (o : Seen) (s m : Image) (v : Promise) → ProperAsked x.asked → Invariant N B f s v → Asks N B ns x o s m
    → Follows N B f (wears N B s) (store_request x.asked) o v m
asked_moves N B f ns x o s m v p k d = one_event N B f (request_laws N B) s m v (store_request x.asked) (asked_may N B f x.asked) p k o d.does

-- it shows what it showed of every other block
pub other_shown : (C : Board) (w : Bool) (r : Asked) (o : Seen) (v y : Promise) (b : ℕ) (z : Found) → Moves C w (store_request r) o v y → b ≢ block_asked r → Shows v b z → Shows y b z
other_shown C w r o v y b z d n h = runs_keep C (record { request = store_request r; worn = w; seen = o } ∷ []) v y (y, d, refl) b z (asked_spares r b n, tt) h

pub shows_shown : (N B : ℕ) (f : Bool) (m : Image) (y : Promise) (b : ℕ) (z : Found) → Invariant N B f m y → Shows y b z → lookup b (shown N B m) ≡ z
shows_shown N B f m (settled t) b z k h = ap (λ (v : Table). lookup b v) (shown_clean N B m k.1.clean) ∙ (k.1.table b ∙ h)
shows_shown N B f m (interrupted t) b z k h = k.1.table b ∙ h
shows_shown N B f m unknown b z k h = absurd h
