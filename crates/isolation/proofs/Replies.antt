-- What a tenant is told on two clean images of the layer that hold the same of its own blocks is the same, but for 8.
use Rattle.std.specs.Prelude.{ℕ, zero, suc, ◌≡◌, ◌≢◌, Bool, ◌||◌, ◌&&◌, length, ltb}
use Rattle.std.proofs.Math.Path.{refl, sym, ap, ap₂}
use Rattle.std.proofs.Common.{◌∙◌, arith}
use Rattle.std.proofs.Math.Bool.{true, false, cond, not}
use Rattle.std.proofs.lemmas.Bool.{false≢true}
use mathlib.Core.List.{List, []}
use Rattle.std.proofs.Math.Dec.{leb, eqb}
use borrow.Author.Tests.{lt-ltb, eqb-true, ne_eqb}
use Rattle.model.specs.Chip.{Image, right_size}
use Rattle.model.specs.Slot.{number_ok}
use Rattle.model.specs.State.{holds, capacity}
use Rattle.model.specs.Table.{Table, lookup, contents_found, table_of}
use Rattle.model.specs.Answers.{length_ok, first_of, work_of}
use Rattle.model.specs.Histories.{wears}
use Rattle.crash.specs.Machine.{malformed, code_on_table, plain_code}
use Rattle.crash.specs.Demand2.{board}
use Rattle.crash.specs.Sound.{Clean, former_in}
use Rattle.crash.proofs.Requests.{code_clean}
use Rattle.shares.specs.Shares.{Share, shares_of, share_of, owns}
use Rattle.shares.specs.Layer.{Asked, puts, deletes, reads, block_asked, store_request, before_full, quota_used, rows, share_code, share_work, contents_asked, share_outcome}
use Rattle.isolation.specs.Law.{served, reply_to}
use Rattle.isolation.specs.Live.{live_same}
use Rattle.isolation.specs.Owners.{owner_tenant, covers_owner}
use Rattle.isolation.specs.Codes.{bound, Passes, passes, bound_same, row, share_code_lem, taken}
use Rattle.isolation.proofs.Meeting.{outcome_code}
use Rattle.isolation.proofs.Turns.{asked_on}
use Rattle.isolation.specs.Within.{Within, tenant_room, held_same}
use Rattle.isolation.proofs.Images.{clean_once}

-- a clean image of the layer
pub record Tidy (N B : ℕ) (ns : List ℕ) (s : Image) : Type 0 where
  pub size : right_size N B s ≡ true
  pub fine : Clean N B s
  pub second : former_in N B s ≡ false
  pub within : Within ns (table_of N B s)

-- ---- a put

-- a put is told 3, 7, 8 or 0
abbrev put_code : Bool → Bool → Bool → ℕ
put_code short used worn = cond short (cond used 7 (cond worn 8 0)) 3

-- by its tests: the store's code k, and the row for the quota before it. Below its quota there is room
put_value : (short held room used worn : Bool) → (held ≡ false → used ≡ false → room ≡ true)
    → (let k = cond (eqb (cond short 0 3) 0) (cond (held || room) (cond worn 8 0) 7) (cond short 0 3) in cond (before_full k) k (cond (not held && used) 7 (cond true k 0)))
    ≡ put_code short (not held && used) worn
unfolding before_full
put_value false held room used worn h = refl
put_value true true room used true h = refl
put_value true true room used false h = refl
put_value true false true true true h = refl
put_value true false true true false h = refl
put_value true false false true worn h = refl
put_value true false true false true h = refl
put_value true false true false false h = refl
put_value true false false false worn h = absurd (false≢true (h refl refl))

-- the chip's wear shows in 8 alone
put_but_worn : (short used v w : Bool) → put_code short used v ≢ 8 → put_code short used w ≢ 8 → put_code short used v ≡ put_code short used w
put_but_worn false used v w p q = refl
put_but_worn true true v w p q = refl
put_but_worn true false true w p q = absurd (p refl)
put_but_worn true false false true p q = absurd (q refl)
put_but_worn true false false false p q = refl

module _ (N B : ℕ) (ns : List ℕ) (a : ℕ) where
  abbrev share : Share
  share = share_of (shares_of ns) a

  -- ---- one image

  module _ (s : Image) (d : Tidy N B ns s) where
    code_plain : (r : Asked) → (work_of N B s (store_request r)).code ≡ plain_code (board N B false) (wears N B s) (table_of N B s) (store_request r)
    code_plain r = code_clean N B s d.size d.fine (store_request r) (asked_on r) ∙ ap (λ (y : Bool). plain_code (board N B y) (wears N B s) (table_of N B s) (store_request r)) d.second

    put_row : (b : ℕ) (c : List ℕ) → Passes N B ns s a b
        → row N B ns s a (puts b c) ≡ put_code (length_ok (length c)) (not (holds b (table_of N B s)) && quota_used share (table_of N B s)) (wears N B s)
    unfolding first_of rows store_request plain_code malformed code_on_table
    put_row b c p = rw (code_plain (puts b c), p.number)
        (put_value (length_ok (length c)) (holds b (table_of N B s)) (ltb (length (table_of N B s)) (capacity N B)) (quota_used share (table_of N B s)) (wears N B s)
        (λ held used. lt-ltb (length (table_of N B s)) (capacity N B) (tenant_room N B ns a b (table_of N B s) p.right d.within p.own used)))

  -- ---- two images that hold the same of its blocks

  abbrev pub SameOwn : Table → Table → Type 0
  SameOwn t u = (b : ℕ) → owns (shares_of ns) a b ≡ true → lookup b t ≡ lookup b u

  module _ (s r : Image) (d : Tidy N B ns s) (e : Tidy N B ns r) (g : SameOwn (table_of N B s) (table_of N B r)) where
    bounds_alike : (b : ℕ) → bound N B ns s a b ≡ bound N B ns r a b
    bounds_alike b = bound_same N B ns s a r b (d.size ∙ sym e.size)

    module _ (b : ℕ) (p : Passes N B ns s a b) where
      held_alike : holds b (table_of N B s) ≡ holds b (table_of N B r)
      held_alike = held_same b (table_of N B s) (table_of N B r) (g b p.own)

      used_alike : quota_used share (table_of N B s) ≡ quota_used share (table_of N B r)
      unfolding quota_used
      used_alike = ap (λ (n : ℕ). leb share.quota n) (live_same share.first share.last (table_of N B s) (table_of N B r) (clean_once N B s d.size d.fine) (clean_once N B r e.size e.fine)
          (λ i h. g i (covers_owner (shares_of ns) a i (owner_tenant (shares_of ns) a b p.own) h)))

      absent_alike : (q : Asked) → plain_code (board N B false) (wears N B s) (table_of N B s) (store_request q) ≡ plain_code (board N B false) (wears N B r) (table_of N B r) (store_request q)
          → (work_of N B s (store_request q)).code ≡ (work_of N B r (store_request q)).code
      absent_alike q h = code_plain s d q ∙ (h ∙ sym (code_plain r e q))

    -- its own rows
    row_alike : (q : Asked) → Passes N B ns s a (block_asked q) → Passes N B ns r a (block_asked q) → row N B ns s a q ≢ 8 → row N B ns r a q ≢ 8 → row N B ns s a q ≡ row N B ns r a q
    unfolding first_of rows store_request block_asked plain_code malformed code_on_table
    row_alike (puts b c) p o m n =
        let used : (not (holds b (table_of N B s)) && quota_used share (table_of N B s)) ≡ (not (holds b (table_of N B r)) && quota_used share (table_of N B r)) = ap₂ (λ (y z : Bool). not y && z) (held_alike b p) (used_alike b p) in
        let first : row N B ns s a (puts b c) ≡ put_code (length_ok (length c)) (not (holds b (table_of N B r)) && quota_used share (table_of N B r)) (wears N B s) = put_row s d b c p ∙ ap (λ (y : Bool). put_code (length_ok (length c)) y (wears N B s)) used in
        let second = put_row r e b c o in
        first ∙ (put_but_worn (length_ok (length c)) (not (holds b (table_of N B r)) && quota_used share (table_of N B r)) (wears N B s) (wears N B r) (λ y. m (first ∙ y)) (λ y. n (second ∙ y)) ∙ sym second)
    row_alike (deletes b) p o m n = absent_alike b p (deletes b) (ap (λ (y : Bool). cond (eqb (cond (number_ok b) 0 2) 0) (cond y 0 6) (cond (number_ok b) 0 2)) (held_alike b p))
    row_alike (reads b size) p o m n =
        let k = absent_alike b p (reads b size) (ap (λ (y : Bool). cond (eqb (cond (number_ok b) 0 2) 0) (cond y 0 6) (cond (number_ok b) 0 2)) (held_alike b p)) in
        rw (k, g b p.own)

    code_alike : (q : Asked) → share_code N B ns s a q ≢ 8 → share_code N B ns r a q ≢ 8 → share_code N B ns s a q ≡ share_code N B ns r a q
    code_alike q m n = go (bound N B ns s a (block_asked q)) refl (sym (bounds_alike (block_asked q)))
      where
        at_row : (i : Image) → bound N B ns i a (block_asked q) ≡ 0 → share_code N B ns i a q ≡ row N B ns i a q
        at_row i h = share_code_lem N B ns i a q ∙ rw h

        at_bound : (i : Image) (k : ℕ) → bound N B ns i a (block_asked q) ≡ suc k → share_code N B ns i a q ≡ suc k
        at_bound i k h = share_code_lem N B ns i a q ∙ rw (h, ne_eqb (suc k) 0 (λ z. omega (arith, z)))

        go : (k : ℕ) → bound N B ns s a (block_asked q) ≡ k → bound N B ns r a (block_asked q) ≡ bound N B ns s a (block_asked q) → share_code N B ns s a q ≡ share_code N B ns r a q
        go zero h f = at_row s h
            ∙ (row_alike q (passes N B ns s a (block_asked q) h) (passes N B ns r a (block_asked q) (f ∙ h)) (λ y. m (at_row s h ∙ y)) (λ y. n (at_row r (f ∙ h) ∙ y)) ∙ sym (at_row r (f ∙ h)))
        go (suc k) h f = at_bound s k h ∙ sym (at_bound r k (f ∙ h))

    -- the contents
    contents_alike : (q : Asked) → owns (shares_of ns) a (block_asked q) ≡ true → contents_asked (table_of N B s) q ≡ contents_asked (table_of N B r) q
    unfolding contents_asked block_asked
    contents_alike (puts b c) o = refl
    contents_alike (deletes b) o = refl
    contents_alike (reads b size) o = ap contents_found (g b o)

    given_alike : (q : Asked) → share_code N B ns s a q ≡ share_code N B ns r a q → (share_outcome N B ns s a q).given ≡ (share_outcome N B ns r a q).given
    unfolding share_outcome share_work
    given_alike q h = rw (← h) (go (eqb (share_code N B ns s a q) 0) refl)
      where
        go : (t : Bool) → eqb (share_code N B ns s a q) 0 ≡ t → cond t (contents_asked (table_of N B s) q) [] ≡ cond t (contents_asked (table_of N B r) q) []
        go true k = contents_alike q (taken N B ns s a q (eqb-true (share_code N B ns s a q) 0 k)).passed.own
        go false k = refl

    pub reply_alike : (q : Asked) → share_code N B ns s a q ≢ 8 → share_code N B ns r a q ≢ 8 → reply_to N B ns s (record { tenant = a; asked = q }) ≡ reply_to N B ns r (record { tenant = a; asked = q })
    unfolding reply_to served
    reply_alike q m n =
        let c = code_alike q m n in
        ap₂ (λ (k : ℕ) (y : List ℕ). record { code = k; bytes = y }) (outcome_code N B ns s a q ∙ (c ∙ sym (outcome_code N B ns r a q))) (given_alike q c)
