-- Two runs without a cut, request by request: each keeps an image of the layer, and one tenant's blocks and replies stay the same in both.
use Rattle.std.specs.Prelude.{ℕ, ◌≡◌, ◌⊎◌, ◌≢◌, true, false, List}
use Rattle.std.proofs.Math.Path.{refl, sym}
use Rattle.std.proofs.Common.{ap, ◌∙◌, subst, inl, inr, arith}
use Rattle.std.proofs.Math.Decide.{ℕ_discrete}
use Rattle.model.specs.Chip.{Image}
use Rattle.model.specs.Table.{Table, lookup, table_of}
use Rattle.model.specs.Histories.{Reply, answered, wears}
use Rattle.model.proofs.Laws.Tables.{lookup_without_same, lookup_without_other, lookup_store_same, lookup_store_other}
use Rattle.crash.specs.Machine.{plain_code, plain, made, next, Promise, settled, Moves}
use Rattle.crash.specs.Demand2.{board}
use Rattle.crash.proofs.Reading.{code_seen, settled_exact}
use Rattle.shares.specs.Shares.{shares_of, owns}
use Rattle.shares.specs.Layer.{Asked, puts, deletes, reads, block_asked, store_request, share_code}
use Rattle.isolation.specs.Law.{Call, served, reply_to, ProperAsked}
use Rattle.isolation.specs.Owners.{one_owner}
use Rattle.isolation.specs.Codes.{Taken}
use Rattle.isolation.proofs.Meeting.{outcome_code, Unacknowledged, Asks}
use Rattle.isolation.proofs.Turns.{asked_on}
use Rattle.isolation.proofs.Images.{clean_within, Layered, turn_layered}
use Rattle.isolation.proofs.Replies.{Tidy, SameOwn, reply_alike}

-- ---- what an accepted request makes of each block

made_other : (r : Asked) (t : Table) (b : ℕ) → b ≢ block_asked r → lookup b (made t (store_request r)) ≡ lookup b t
unfolding made store_request block_asked
made_other (puts a c) t b n = lookup_store_other b a c t n
made_other (deletes a) t b n = lookup_without_other b a t n
made_other (reads a size) t b n = refl

made_own : (r : Asked) (t u : Table) → lookup (block_asked r) t ≡ lookup (block_asked r) u → lookup (block_asked r) (made t (store_request r)) ≡ lookup (block_asked r) (made u (store_request r))
unfolding made store_request block_asked
made_own (puts a c) t u h = lookup_store_same a c t ∙ sym (lookup_store_same a c u)
made_own (deletes a) t u h = lookup_without_same a t ∙ sym (lookup_without_same a u)
made_own (reads a size) t u h = h

made_same : (r : Asked) (t u : Table) (b : ℕ) → lookup b t ≡ lookup b u → lookup b (made t (store_request r)) ≡ lookup b (made u (store_request r))
made_same r t u b h = elim (ℕ_discrete b (block_asked r)) [
  | yes e ↦ subst (λ (i : ℕ). lookup i (made t (store_request r)) ≡ lookup i (made u (store_request r))) (sym e) (made_own r t u (subst (λ (i : ℕ). lookup i t ≡ lookup i u) e h))
  | no n ↦ made_other r t b n ∙ (h ∙ sym (made_other r u b n))
]

-- ---- one request, answered

module _ (N B : ℕ) (ns : List ℕ) where
  -- the image that it leaves
  abbrev pub after : Image → Call → Image
  after s x = (served N B ns s x).image

  abbrev pub code_to : Image → Call → ℕ
  code_to s x = (reply_to N B ns s x).code

  -- the table that it leaves: the same if it is refused, else what the store's request makes of it
  abbrev Leaves : Image → Call → Table → Table → Type 0
  Leaves s x t y = ((code_to s x ≢ 0) × (y ≡ t)) ⊎ ((code_to s x ≡ 0) × Taken N B ns s x.tenant x.asked × (y ≡ made t (store_request x.asked)))

  code_told : (s : Image) (x : Call) → code_to s x ≡ share_code N B ns s x.tenant x.asked
  unfolding reply_to served
  code_told s x = outcome_code N B ns s x.tenant x.asked

  exact : (s : Image) (x : Call) (t : Table) (y : Promise) → code_to s x ≡ 0 → Moves (board N B false) (wears N B s) (store_request x.asked) (answered (reply_to N B ns s x)) (settled t) y
      → y ≡ settled (made t (store_request x.asked))
  unfolding next plain
  exact s x t y e m =
      let r = store_request x.asked in
      let d = settled_exact m t refl (asked_on x.asked) (λ n. omega (arith, e, n)) in
      let z : plain_code (board N B false) (wears N B s) t r ≡ 0 = sym (ap code_seen d.0) ∙ e in
      d.1 ∙ rw z

  turns : (s : Image) (x : Call) (t : Table) → ProperAsked x.asked → Layered N B ns s (settled t) → (y : Table) × Layered N B ns (after s x) (settled y) × Leaves s x t y
  turns s x t p k = go (turn_layered N B ns x (answered (reply_to N B ns s x)) s (after s x) (settled t) p k (refl, refl))
    where
      go : (Unacknowledged (answered (reply_to N B ns s x)) × (after s x ≡ s) × Layered N B ns (after s x) (settled t))
          ⊎ ((y : Promise) × Moves (board N B false) (wears N B s) (store_request x.asked) (answered (reply_to N B ns s x)) (settled t) y × Layered N B ns (after s x) y × Asks N B ns x (answered (reply_to N B ns s x)) s (after s x))
          → (y : Table) × Layered N B ns (after s x) (settled y) × Leaves s x t y
      go (inl (n, i, l)) = (t, l, inl (n, refl))
      go (inr (y, m, l, d)) =
          let z = code_told s x ∙ d.zero_code in
          (made t (store_request x.asked), subst (λ (v : Promise). Layered N B ns (after s x) v) (exact s x t y z m) l, inr (z, d.taken_so, refl))

-- ---- two runs

abbrev pub call : ℕ → Asked → Call
call a q = record { tenant = a; asked = q }

pub record Alike (N B : ℕ) (ns : List ℕ) (a : ℕ) (s r : Image) : Type 0 where
  pub one : Table
  pub two : Table
  pub left : Layered N B ns s (settled one)
  pub right : Layered N B ns r (settled two)
  pub own : SameOwn N B ns a one two

module _ (N B : ℕ) (ns : List ℕ) (a : ℕ) where
  pub alike_sym : (s r : Image) → Alike N B ns a s r → Alike N B ns a r s
  alike_sym s r k = record { one = k.two; two = k.one; left = k.right; right = k.left; own = λ b h. sym (k.own b h) }

  tidy_of : (s : Image) (t : Table) → Layered N B ns s (settled t) → Tidy N B ns s
  tidy_of s t (k, w) = record { size = k.0; fine = k.1.clean; second = k.1.version; within = clean_within N B ns s (settled t) k.1.clean k w }

  -- a request of another tenant changes none of its blocks
  pub other_turn : (s r : Image) (x : Call) → ProperAsked x.asked → x.tenant ≢ a → Alike N B ns a s r → Alike N B ns a (after N B ns s x) r
  other_turn s r x p n k =
      let d = turns N B ns s x k.one p k.left in
      record { one = d.0; two = k.two; left = d.1; right = k.right; own = λ b h. same d.0 d.2 b h ∙ k.own b h }
    where
      same : (y : Table) → Leaves N B ns s x k.one y → SameOwn N B ns a y k.one
      same y (inl (c, e)) b h = ap (λ (v : Table). lookup b v) e
      same y (inr (c, q, e)) b h = ap (λ (v : Table). lookup b v) e
          ∙ made_other x.asked k.one b (λ i. n (one_owner N B ns x.tenant a (block_asked x.asked) q.passed.right q.passed.own (subst (λ (j : ℕ). owns (shares_of ns) a j ≡ true) i h)))

  -- its own request is told the same in both, and does the same to its blocks
  pub own_turn : (s r : Image) (q : Asked) → ProperAsked q → Alike N B ns a s r
      → code_to N B ns s (call a q) ≢ 8 → code_to N B ns r (call a q) ≢ 8 → (reply_to N B ns s (call a q) ≡ reply_to N B ns r (call a q)) × Alike N B ns a (after N B ns s (call a q)) (after N B ns r (call a q))
  own_turn s r q p k m n =
      let d = turns N B ns s x k.one p k.left in
      let e = turns N B ns r x k.two p k.right in
      (same, record { one = d.0; two = e.0; left = d.1; right = e.1; own = λ b h. both d.0 e.0 d.2 e.2 b h })
    where
      x : Call
      x = call a q

      held : SameOwn N B ns a (table_of N B s) (table_of N B r)
      held b h = k.left.0.1.table b ∙ (k.own b h ∙ sym (k.right.0.1.table b))

      same : reply_to N B ns s x ≡ reply_to N B ns r x
      same = reply_alike N B ns a s r (tidy_of s k.one k.left) (tidy_of r k.two k.right) held q (λ z. m (code_told N B ns s x ∙ z)) (λ z. n (code_told N B ns r x ∙ z))

      code : code_to N B ns s x ≡ code_to N B ns r x
      code = ap (λ (y : Reply). y.code) same

      both : (y z : Table) → Leaves N B ns s x k.one y → Leaves N B ns r x k.two z → SameOwn N B ns a y z
      both y z (inl (c, e)) (inl (d, f)) b h = ap (λ (v : Table). lookup b v) e ∙ (k.own b h ∙ ap (λ (v : Table). lookup b v) (sym f))
      both y z (inl (c, e)) (inr (d, w, f)) b h = absurd (c (code ∙ d))
      both y z (inr (c, w, e)) (inl (d, f)) b h = absurd (d (sym code ∙ c))
      both y z (inr (c, w, e)) (inr (d, o, f)) b h = ap (λ (v : Table). lookup b v) e ∙ (made_same q k.one k.two b (k.own b h) ∙ ap (λ (v : Table). lookup b v) (sym f))
