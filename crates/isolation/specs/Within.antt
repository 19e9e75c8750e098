-- Tables that keep to the shares: every block has an owner, and no tenant has more than its quota. A tenant's accepted request keeps it so.
use Rattle.std.specs.Prelude.{ℕ, ◌≤◌, ◌<◌, ◌≡◌, refl, Bool, true, false, ◌&&◌, not, List, [], length, leb}
use Rattle.std.proofs.Common.{sym, ap, ap₂, ◌∙◌, true≢false, arith, leb-false}
use Rattle.std.proofs.lemmas.Bool.{false≢true}
use Rattle.std.proofs.Math.Decide.{ℕ_discrete}
use Rattle.model.specs.State.{holds, distinct, capacity}
use Rattle.model.specs.Table.{Table, lookup, without, store, Agree, contents_found}
use Rattle.model.proofs.Laws.Tables.{agree_holds, lookup_held, found_held, absent_free, lookup_without_same, lookup_without_other, lookup_store_other}
use Rattle.crash.specs.Machine.{made}
use Rattle.shares.specs.Shares.{Share, shares_of, shares_ok, share_of, owns}
use Rattle.shares.specs.Layer.{Asked, puts, deletes, reads, block_asked, store_request, quota_used}
use Rattle.isolation.specs.Live.{live_none, live_without, live_rewritten, live_added, live_elsewhere, live_same}
use Rattle.isolation.specs.Owners.{covers, live, owner_tenant, covers_owner, one_owner, Owned, WithinQuotas, room_for_tenant}
use Rattle.isolation.specs.Codes.{Spare}

abbrev pub Within : List ℕ → Table → Type 0
Within ns t = Owned (shares_of ns) t × WithinQuotas (shares_of ns) t

pub within_empty : (ns : List ℕ) → Within ns []
unfolding holds
within_empty ns = ((λ b h. absurd (false≢true h)), λ a h. let x = share_of (shares_of ns) a in omega (arith, live_none x.first x.last))

-- a tenant whose quota is not used finds room
pub tenant_room : (N B : ℕ) (ns : List ℕ) (a b : ℕ) (t : Table) → shares_ok N B ns ≡ true → Within ns t → owns (shares_of ns) a b ≡ true → quota_used (share_of (shares_of ns) a) t ≡ false → length t < capacity N B
unfolding quota_used
tenant_room N B ns a b t right w own h = let x = share_of (shares_of ns) a in room_for_tenant N B ns a t right w.0 w.1 (owner_tenant (shares_of ns) a b own) (leb-false x.quota (live x t) h)

-- ---- tables that show the same

pub live_agree : (x : Share) (t u : Table) → distinct t ≡ true → distinct u ≡ true → Agree t u → live x t ≡ live x u
live_agree x t u p q g = live_same x.first x.last t u p q (λ b h. g b)

pub within_agree : (ns : List ℕ) (t u : Table) → distinct t ≡ true → distinct u ≡ true → Agree t u → Within ns u → Within ns t
within_agree ns t u p q g w =
    ((λ b h. w.0 b (sym (agree_holds t u g b) ∙ h)), λ a h. let x = share_of (shares_of ns) a in omega (arith, w.1 a h, live_agree x t u p q g))

pub spare_agree : (x : Share) (t u : Table) → distinct t ≡ true → distinct u ≡ true → Agree t u → (r : Asked) → Spare x t r → Spare x u r
unfolding quota_used
spare_agree x t u p q g (puts b c) h = ap₂ (λ (y : Bool) (n : ℕ). not y && leb x.quota n) (sym (agree_holds t u g b)) (sym (live_agree x t u p q g)) ∙ h
spare_agree x t u p q g (deletes b) h = tt
spare_agree x t u p q g (reads b size) h = tt

-- ---- an accepted request

-- what another number shows was there before
pub held_before : (b : ℕ) (t u : Table) → lookup b u ≡ lookup b t → holds b u ≡ true → holds b t ≡ true
held_before b t u e h = found_held b t (contents_found (lookup b u)) (sym e ∙ lookup_held b u h)

pub held_same : (b : ℕ) (t u : Table) → lookup b t ≡ lookup b u → holds b t ≡ holds b u
held_same b t u e = go (holds b t) (holds b u) refl refl
  where
    go : (x y : Bool) → holds b t ≡ x → holds b u ≡ y → x ≡ y
    go true true p q = refl
    go true false p q = absurd (true≢false (sym (held_before b u t e p) ∙ q))
    go false true p q = absurd (true≢false (sym (held_before b t u (sym e) q) ∙ p))
    go false false p q = refl

-- a new block, while the quota is not used
below : (x : Share) (t : Table) (b : ℕ) → (not (holds b t) && quota_used x t) ≡ false → holds b t ≡ false → live x t < x.quota
unfolding quota_used
below x t b h k = leb-false x.quota (live x t) (rw k at h)

module _ (N B : ℕ) (ns : List ℕ) (right : shares_ok N B ns ≡ true) (a : ℕ) (t : Table) (once : distinct t ≡ true) (w : Within ns t) where
  put_owned : (b : ℕ) (c : List ℕ) → owns (shares_of ns) a b ≡ true → Owned (shares_of ns) (store b c t)
  put_owned b c own o h = elim (ℕ_discrete o b) [
    | yes e ↦ (a, rw e own)
    | no n ↦ w.0 o (held_before o t (store b c t) (lookup_store_other o b c t n) h)
  ]

  put_quotas : (b : ℕ) (c : List ℕ) → owns (shares_of ns) a b ≡ true → Spare (share_of (shares_of ns) a) t (puts b c) → WithinQuotas (shares_of ns) (store b c t)
  put_quotas b c own spare o h = by_range (covers x b) refl
    where
      x : Share
      x = share_of (shares_of ns) o

      by_held : (y : Bool) → holds b t ≡ y → (not (holds b t) && quota_used x t) ≡ false → live x (store b c t) ≤ x.quota
      by_held true k s = omega (arith, live_rewritten x.first x.last b c t once k, w.1 o h)
      by_held false k s = omega (arith, live_added x.first x.last b c t, below x t b s k)

      by_range : (y : Bool) → covers x b ≡ y → live x (store b c t) ≤ x.quota
      by_range true k =
          let e : a ≡ o = one_owner N B ns a o b right own (covers_owner (shares_of ns) o b h k) in
          by_held (holds b t) refl (ap (λ (i : ℕ). not (holds b t) && quota_used (share_of (shares_of ns) i) t) (sym e) ∙ spare)
      by_range false k = omega (arith, live_elsewhere x.first x.last b c t k, w.1 o h)

  delete_within : (b : ℕ) → Within ns (without b t)
  delete_within b = (owned, λ o h. let x = share_of (shares_of ns) o in omega (arith, live_without x.first x.last b t, w.1 o h))
    where
      owned : Owned (shares_of ns) (without b t)
      owned o h = elim (ℕ_discrete o b) [
        | yes e ↦ absurd (true≢false (sym h ∙ rw e (absent_free b (without b t) (lookup_without_same b t))))
        | no n ↦ w.0 o (held_before o t (without b t) (lookup_without_other o b t n) h)
      ]

  pub within_made : (r : Asked) → owns (shares_of ns) a (block_asked r) ≡ true → Spare (share_of (shares_of ns) a) t r → Within ns (made t (store_request r))
  unfolding made store_request block_asked
  within_made (puts b c) own spare = (put_owned b c own, put_quotas b c own spare)
  within_made (deletes b) own spare = delete_within b
  within_made (reads b size) own spare = w
