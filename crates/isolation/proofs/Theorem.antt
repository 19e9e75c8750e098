-- What tenants can rely on, proved.
use Rattle.std.specs.Prelude.{ℕ, ◌≡◌, refl, ◌⊎◌, ◌≢◌, Bool, true, false, not, List, [], length, leb}
use Rattle.std.proofs.Common.{sym, ap, ◌∙◌, subst, inl, ⊎_elim, true≢false, arith, leb-true}
use Rattle.std.proofs.lemmas.Bool.{not-true}
use Rattle.model.specs.Chip.{Image, run}
use Rattle.model.specs.State.{holds, capacity}
use Rattle.model.specs.Table.{Table, present, lookup, live_between, table_of}
use Rattle.model.specs.Answers.{put, first_of, work_of}
use Rattle.model.specs.Histories.{Reply, answered, wears, shown}
use Rattle.model.specs.Laws.Lists.{and_left, and_right}
use Rattle.crash.specs.Machine.{Promise, settled, interrupted, unknown}
use Rattle.crash.specs.Demand2.{board}
use Rattle.crash.specs.Sound.{former_in}
use Rattle.crash.specs.Invariant.{Stores}
use Rattle.crash.proofs.Requests.{shown_clean}
use Rattle.crash.proofs.ReadingRuns.{Shows, Known, read_shows}
use Rattle.crash.proofs.Theorem.{demand2}
use Rattle.shares.specs.Shares.{Share, shares_of, share_of, owns}
use Rattle.shares.specs.Layer.{puts, reads, block_asked, store_request, quota_used, before_full, rows, share_code, share_work, share_outcome}
use Rattle.isolation.specs.Law.{Call, served, reply_to, told, replies_to, formatted, Isolation, NothingShows, Turn, OfLayer, Reaches7, OwnQuotaUsed, GuaranteedShare, BelowQuota, PutBy, OwnContents, ForeignRefused, LayerDemand2, OthersKept, FullElsewhere}
use Rattle.isolation.specs.Owners.{one_owner}
use Rattle.isolation.specs.Codes.{passes, bound, share_code_lem, bound_other, foreign_code, seven, seven_back, store_full}
use Rattle.isolation.proofs.Meeting.{Asks, meets}
use Rattle.isolation.proofs.Turns.{asked_moves, layer_history, other_shown, shows_shown}
use Rattle.isolation.specs.Within.{Within, tenant_room}
use Rattle.isolation.proofs.Images.{Promised, clean_once, clean_within, Layered, From, through, start}
use Rattle.isolation.proofs.Isolated.{isolated, none_worn, all_told, same_all}

-- ---- two runs

pub isolation : Isolation
unfolding lookup
isolation N B ns a s r k m xs ys h i ps qs e =
    isolated N B ns a xs (formatted N B s k) ps ys (formatted N B r m) (record { one = []; two = []; left = start N B ns s k h; right = start N B ns r m i; own = λ b o. refl }) qs e

pub nothing_shows : NothingShows
nothing_shows N B ns a s r k m xs ys h i ps qs e f g =
    let p = told N B ns (formatted N B s k) xs in
    let q = told N B ns (formatted N B r m) ys in
    same_all (replies_to a p) (replies_to a q) (rw (none_worn p f, none_worn q g) at (isolation N B ns a s r k m xs ys h i ps qs e))
    (all_told N B ns a xs (formatted N B s k) ∙ (ap length e ∙ sym (all_told N B ns a ys (formatted N B r m))))

-- ---- a guaranteed share

-- on any image
pub full_elsewhere : FullElsewhere
unfolding first_of rows block_asked store_request
full_elsewhere N B ns u a b c = (there, back)
  where
    k : ℕ
    k = (work_of N B u (put b c)).code

    x : Share
    x = share_of (shares_of ns) a

    there : share_code N B ns u a (puts b c) ≡ 7 → Reaches7 N B ns u a b c × (OwnQuotaUsed N B ns u a b ⊎ (k ≡ 7))
    there h = seven (bound N B ns u a b) k before_full (holds b (table_of N B u)) (quota_used x (table_of N B u)) (bound_other N B ns u a b).0 (unfold before_full in refl) (sym (share_code_lem N B ns u a (puts b c)) ∙ h)

    back : Reaches7 N B ns u a b c → OwnQuotaUsed N B ns u a b ⊎ (k ≡ 7) → share_code N B ns u a (puts b c) ≡ 7
    back (m, e) h = share_code_lem N B ns u a (puts b c) ∙ rw (m, e) (seven_back k (holds b (table_of N B u)) (quota_used x (table_of N B u)) h)

-- what an image of the layer has gone through
since : (N B : ℕ) (ns : List ℕ) (ts : List Turn) (u : Image) → OfLayer N B ns ts u → (y : Promise) × Layered N B ns u y × From ns ts (settled []) y
since N B ns ts u (s, k, h, t, only) = through N B ns ts (formatted N B s k) u (settled []) only (start N B ns s k h) t

pub guaranteed_share : GuaranteedShare
guaranteed_share N B ns ts u a b c h = ((λ e. let f = (full_elsewhere N B ns u a b c).0 e in (f.0, ⊎_elim (λ used. used) (λ full. by_quota f.0 full) f.1)), λ p used. (full_elsewhere N B ns u a b c).1 p (inl used))
  where
    by_quota : Reaches7 N B ns u a b c → (work_of N B u (put b c)).code ≡ 7 → OwnQuotaUsed N B ns u a b
    by_quota p full =
        let y = since N B ns ts u h in
        let f = store_full N B u b c full in
        let t = table_of N B u in
        let more = leb-true (capacity N B) (length t) (and_right (not (holds b t)) (leb (capacity N B) (length t)) f.1) in
        let w = clean_within N B ns u y.0 f.0 y.1.0 y.1.1 in
        let q = passes N B ns u a b p.0 in
        (not-true (holds b t) (and_left (not (holds b t)) (leb (capacity N B) (length t)) f.1), go (quota_used (share_of (shares_of ns) a) t) refl (λ e. omega (arith, more, tenant_room N B ns a b t q.right w q.own e)))
      where
        go : (x : Bool) → quota_used (share_of (shares_of ns) a) (table_of N B u) ≡ x → (quota_used (share_of (shares_of ns) a) (table_of N B u) ≡ false → ⊥) → x ≡ true
        go true e n = refl
        go false e n = absurd (n e)

pub below_quota : BelowQuota
unfolding quota_used
below_quota N B ns ts u a b c h few full =
    let x = share_of (shares_of ns) a in
    let live = live_between x.first x.last (table_of N B u) in
    omega (arith, few, leb-true x.quota live ((guaranteed_share N B ns ts u a b c h).0 full).1.1)

-- ---- a tenant reads what it has put

-- nothing was there at the start
none_before : (b : ℕ) (c : List ℕ) → Shows (settled []) b (present c) → ⊥
unfolding lookup
none_before b c h = let y : ◌≡◌ {A = ℕ} 0 1 = cc in omega (arith, y)

known : (P : Table → Type 0) (y : Promise) → Promised P y → Known y
known P (settled t) h = tt
known P (interrupted t) h = tt
known P unknown h = absurd h

pub own_contents : OwnContents
unfolding store_request block_asked
own_contents N B ns ts u a b size c h e = ⊎_elim (λ i. absurd (i.0 (ap (λ (y : Reply). y.code) e))) given (meets N B ns x u (answered (reply_to N B ns u x)) (served N B ns u x).image (refl, refl))
  where
    x : Call
    x = record { tenant = a; asked = reads b size }

    given : Asks N B ns x (answered (reply_to N B ns u x)) u (served N B ns u x).image → PutBy a b c ts
    given d =
        let y = since N B ns ts u h in
        let f = asked_moves N B false ns x (answered (reply_to N B ns u x)) u (served N B ns u x).image y.0 tt y.1.0 d in
        let shows = read_shows f.1 b c (known (λ t. Within ns t) y.0 y.1.1) refl (ap answered e) in
        ⊎_elim (λ old. absurd (none_before b c old))
        (λ new. subst (λ (i : ℕ). PutBy i b c ts) (one_owner N B ns new.0 a b d.taken_so.passed.right new.1 d.taken_so.passed.own) new.2) (y.2 b c shows)

-- ---- foreign blocks

pub foreign_refused : ForeignRefused
unfolding served share_outcome share_work run
foreign_refused N B ns s x z right number foreign = rw (foreign_code N B ns s x.tenant x.asked z right number foreign)

pub others_kept : OthersKept
others_kept N B ns s m x o b y p served foreign = ⊎_elim (λ i. ap (λ (v : Image). lookup b (shown N B v)) i.1) asked (meets N B ns x s o m served)
  where
    asked : Asks N B ns x o s m → lookup b (shown N B m) ≡ lookup b (shown N B s)
    asked k =
        let f = former_in N B s in
        let t = table_of N B s in
        let z = k.taken_so.passed.size in
        let stored : Stores N B f s t = record { clean = k.tidy; version = refl; table = λ i. refl; once = clean_once N B s z k.tidy; bytes = y } in
        let d = asked_moves N B f ns x o s m (settled t) p (z, stored) k in
        let other : b ≢ block_asked x.asked = (λ e. true≢false (sym k.taken_so.passed.own ∙ (ap (λ (i : ℕ). owns (shares_of ns) x.tenant i) (sym e) ∙ foreign))) in
        shows_shown N B f m d.0 b (lookup b t) d.2 (other_shown (board N B f) (wears N B s) x.asked o (settled t) d.0 b (lookup b t) d.1 other refl)
        ∙ ap (λ (v : Table). lookup b v) (sym (shown_clean N B s k.tidy))

-- ---- demand 2

pub layer_demand2 : LayerDemand2
layer_demand2 N B ns s u ts z h = let a = layer_history N B ns ts s u h in (a.0, a.1, a.2, demand2 N B s u a.0 z a.2)
