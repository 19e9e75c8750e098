-- Of a clean image: what the header at each index shows, and so that the search finds the top and the count of those in use.
use Prim.Native.Nat.{ℕ, suc, ◌+◌, ◌-◌, ◌*◌, ◌/◌, ◌%◌, ◌≤◌, ◌<◌}
use mathlib.Core.Path.{◌≡◌, refl, sym, ap, ◌∙◌}
use mathlib.Core.Logic.{◌≢◌, inl, inr}
use mathlib.Core.Bool.{true, false, not, true≢false, false≢true}
use mathlib.Core.List.{List, []}
use native.Mathlib.Decide.{dec_lt}
use native.Mathlib.Nat.{mod-lt, mod-eq_of_lt, add-mod_right, add-mul-mod_self_right, div-add-mod', suc-mul}
use native.Mathlib.Omega.{arith}
use lib.ListN.{length, get_or}
use borrow.Author.Tests.{not-true}
use Rattle.model.specs.Chip.{Image, erased, erase_limit, number_limit, pages_of}
use Rattle.model.specs.Header.{value, status_in_use, header_status, header_number}
use Rattle.model.specs.State.{Segment, blank, invalid, in_use, is_in_use, is_invalid, number_after, slots_in, version_in, next_number, used_count, first_number, others_blank, segments_of, View, view}
use Rattle.model.specs.Laws.Lists.{all_get, mod_inj}
use Rattle.model.proofs.Laws.Bytes.{erased_get}
use Rattle.model.proofs.Laws.Chip.{size_facts}
use Rattle.model.specs.Laws.Chunk.{chunk_part}
use Rattle.model.proofs.Laws.HeaderPage.{in_use_facts}
use Rattle.model.proofs.Laws.Segments.{part_of, part_page, page_in, page_byte, segment_at}
use Rattle.model.proofs.Laws.Effects.{in_use_parts, numbered_at, blank_page}
use Rattle.model.proofs.Laws.Ring.{Apart, only_numbered}
use Rattle.model.proofs.Laws.Clean.{RingFacts, used_next, numbered, in_use_numbered}
use Rattle.bridge.specs.Held.{Held, held_of_clean, held_count, held_next}
use Rattle.ring.specs.Seen.{status_at, number_at, LastFollowing, LastUsed, RunFrom, TopSeen, UsedSeen, SeenRing}
use Rattle.std.specs.Prelude.{Option, None, Some}
use Rattle.ring.specs.declared.Ring.{Ring}

-- ---- what a header shows

-- at index i stands the number q below the top's number t, if it is one of the u in use; otherwise a blank header
pub record Shown (B : ℕ) (s : Image) (t u i q : ℕ) : Type 0 where
  pub used : q < u → (status_at B s i ≢ 255) × (number_at B s i ≡ t - q)
  pub free : u ≤ q → (status_at B s i ≡ 255) × (number_at B s i ≡ 4294967295)

-- the top has index k; going down from there, and on from the end, are the numbers before it
pub record Turned (N B : ℕ) (s : Image) (k t u : ℕ) : Type 0 where
  pub within : k < N
  pub low : k ≤ t
  pub below : t < erase_limit * N
  pub most : N ≤ 255
  pub some : 1 ≤ u
  pub spare : u + 1 ≤ N
  pub few : u ≤ t + 1
  pub down : (i : ℕ) → i ≤ k → Shown B s t u i (k - i)
  pub round : (i : ℕ) → k < i → i < N → Shown B s t u i (k + N - i)

status_not : (st : ℕ) → status_in_use st ≡ true → st ≢ 255
unfolding status_in_use
status_not st h e = false≢true (rw e at h)

blank_number : header_number (erased 256) ≡ 4294967295
unfolding header_number erased value
blank_number = refl

module _ (N B : ℕ) (s : Image) (v : View) (h : Held N B s v) where
  abbrev l : List Segment
  l = segments_of N B s

  abbrev r : RingFacts N l
  r = h.ring

  abbrev t : ℕ
  t = next_number l - 1

  abbrev u : ℕ
  u = used_count l

  some : 0 < N
  some = omega (arith, (size_facts N B s h.size).two)

  -- byte 5 of a header, and its number
  status_page : (i : ℕ) → i < N → status_at B s i ≡ header_status (get_or (part_of N B i s) 0 [])
  unfolding status_at header_status
  status_page i p =
      let e : (i * (B + 1) + 0) * 256 + 5 ≡ i * (B + 1) * 256 + 5 = omega arith in
      sym (rw e at (page_byte N B i 0 5 s p (omega arith) (omega arith)))

  number_page : (i : ℕ) → i < N → number_at B s i ≡ header_number (get_or (part_of N B i s) 0 [])
  unfolding number_at pages_of
  number_page i p =
      let e : (i * (B + 1) + 0) * 256 ≡ i * (B + 1) * 256 = omega arith in
      ap header_number (sym (rw e at (part_page N B i 0 s p (omega arith) ∙ chunk_part 256 (N * (B + 1)) (i * (B + 1) + 0) s (page_in N B i 0 p (omega arith)))))

  used_at : (i n : ℕ) → i < N → number_after (get_or l i blank) ≡ suc n → (status_at B s i ≢ 255) × (number_at B s i ≡ n)
  used_at i n p e =
      let x = get_or l i blank in
      let w = in_use_numbered x n e in
      let q = in_use_parts N B i (part_of N B i s) (version_in x) w.0 n (slots_in x) (sym (segment_at N B i s p) ∙ w.1) in
      (rw (status_page i p) (status_not _ (in_use_facts N B i (get_or (part_of N B i s) 0 []) q.header).status), number_page i p ∙ q.number)

  free_at : (i : ℕ) → i < N → is_in_use (get_or l i blank) ≡ false → (status_at B s i ≡ 255) × (number_at B s i ≡ 4294967295)
  free_at i p f = go (get_or l i blank) refl f
    where
      fine : is_invalid (get_or l i blank) ≡ false
      fine = unfold others_blank in not-true (is_invalid (get_or l i blank)) (all_get (λ x. not (is_invalid x)) l i blank r.others (omega (arith, r.size)))

      go : (x : Segment) → get_or l i blank ≡ x → is_in_use x ≡ false → (status_at B s i ≡ 255) × (number_at B s i ≡ 4294967295)
      go blank e b =
          let z = size_facts N B s h.size in
          let g : get_or (part_of N B i s) 0 [] ≡ erased 256 = blank_page N B z.two s z.whole i 0 p (omega arith) e in
          (status_page i p ∙ (rw g (unfold header_status in erased_get 256 5 (omega arith))), number_page i p ∙ (rw g blank_number))
      go invalid e b = absurd (true≢false (unfold is_invalid in (rw e at fine)))
      go (in_use ver st n ks) e b = absurd (true≢false (unfold is_in_use in b))

  -- the number q below the top's, or what would be it, has index i
  shown : (i q d : ℕ) → i < N → q < N → t + N ≡ q + (i + d * N) → Shown B s t u i q
  shown i q d p b e = record { used = used; free = free }
    where
      place : (i + d * N) % N ≡ i
      place = add-mul-mod_self_right i d N ∙ mod-eq_of_lt p

      used : q < u → (status_at B s i ≢ 255) × (number_at B s i ≡ t - q)
      used c =
          let f : t - q + N ≡ i + d * N = omega (arith, used_next N l r) in
          let g : (t - q) % N ≡ i = sym (add-mod_right (t - q) N) ∙ ap (λ (y : ℕ). y % N) f ∙ place in
          used_at i (t - q) p (rw g at (numbered N l r (t - q) (omega (arith, used_next N l r)) (omega (arith, used_next N l r))))

      apart : u ≤ q → Apart N u (first_number l) i
      apart c j a k g = omega (arith, used_next N l r, mod_inj N j (i + d * N) (omega (arith, used_next N l r)) (omega (arith, used_next N l r)) (g ∙ sym place))

      free : u ≤ q → (status_at B s i ≡ 255) × (number_at B s i ≡ 4294967295)
      free c = free_at i p (only_numbered N l u (first_number l) i r.size (omega (arith, r.spare)) r.chain refl p (apart c))

  pub turned : Turned N B s (t % N) t (length v.slots)
  unfolding number_limit
  turned =
      let e = held_count N B s v h in
      let k = t % N in
      let p : k < N = mod-lt t some in
      let d : t / N * N + k ≡ t = div-add-mod' t N in
      let m = numbered_at N B s k t p (numbered N l r t (omega (arith, used_next N l r, r.some)) (omega (arith, used_next N l r, r.some))) in
      rw e record {
        within = p;
        low = omega arith;
        below = m.1;
        most = omega (arith, (size_facts N B s h.size).most);
        some = r.some;
        spare = omega (arith, r.spare, r.some);
        few = omega (arith, used_next N l r);
        down = λ i a. shown i (k - i) (suc (t / N)) (omega arith) (omega arith) (omega (arith, suc-mul (t / N) N));
        round = λ i a b. shown i (k + N - i) (t / N) b (omega arith) (omega arith);
      }

-- ---- what is found

module _ (N B : ℕ) (s : Image) (k t u : ℕ) (w : Turned N B s k t u) where
  -- a header tells whether its number is in use
  is_used : (i q : ℕ) → Shown B s t u i q → status_at B s i ≢ 255 → q < u
  is_used i q d n = elim (dec_lt q u) [ yes a ↦ a | no a ↦ absurd (n (d.free (omega arith)).0) ]

  is_free : (i q : ℕ) → Shown B s t u i q → status_at B s i ≡ 255 → u ≤ q
  is_free i q d n = elim (dec_lt q u) [ yes a ↦ absurd ((d.used a).0 n) | no a ↦ omega arith ]

  -- at index 0 stands the number k below the top's
  start : Shown B s t u 0 k
  start = let e : k - 0 ≡ k = omega arith in rw e at (w.down 0 (omega arith))

  pub top_number_lem : number_at B s k ≡ t
  top_number_lem =
      let e : k - k ≡ 0 = omega arith in
      let f : t - 0 ≡ t = omega arith in
      ((rw e at (w.down k (omega arith))).used w.some).1 ∙ f

  following_top : (r : ℕ) → status_at B s 0 ≢ 255 → LastFollowing N B s (number_at B s 0) r → r ≡ k
  following_top r n f = elim (dec_lt r k) [ yes a ↦ absurd (early a) | no a ↦ elim (dec_lt k r) [ yes b ↦ absurd (late b) | no b ↦ omega arith ] ]
    where
      many : k < u
      many = is_used 0 k start n

      zero_number : number_at B s 0 ≡ t - k
      zero_number = (start.used many).1

      early : r < k → ⊥
      early a =
          let e : number_at B s (r + 1) ≡ t - (k - (r + 1)) = ((w.down (r + 1) (omega arith)).used (omega (arith, many))).1 in
          f.ends (omega (arith, w.within)) (omega (arith, e, zero_number, w.low))

      late : k < r → ⊥
      late a =
          let g = f.follows (omega arith) in
          let d = w.round r a f.within in
          elim (dec_lt (k + N - r) u) [
            | yes b ↦ omega (arith, (d.used b).1, g, zero_number, w.low, w.few, f.within)
            | no b ↦ omega (arith, (d.free (omega arith)).1, g, zero_number, w.low, w.below, w.most, f.within)
          ]

  last_top : (r : ℕ) → status_at B s 0 ≡ 255 → LastUsed N B s r → r ≡ k
  last_top r n f = elim (dec_lt r k) [ yes a ↦ absurd (early a) | no a ↦ elim (dec_lt k r) [ yes b ↦ absurd (late b) | no b ↦ omega arith ] ]
    where
      early : r < k → ⊥
      early a = ((w.down k (omega arith)).used (omega (arith, w.some))).0 (f.free k a w.within)

      late : k < r → ⊥
      late a = omega (arith, is_used r (k + N - r) (w.round r a f.within) (f.used (omega arith)), is_free 0 k start n, f.within)

  pub found_top : (r : ℕ) → TopSeen N B s r → r ≡ k
  found_top r (inl (n, f)) = following_top r n f
  found_top r (inr (n, f)) = last_top r n f

  -- the second after the top is the oldest of a whole ring
  second : Shown B s t u ((k + 2) % N) (N - 2)
  second = elim (dec_lt (k + 2) N) [
    | yes a ↦ let e : k + N - (k + 2) ≡ N - 2 = omega arith in rw (mod-eq_of_lt a, ← e) (w.round (k + 2) (omega arith) a)
    | no a ↦
        let i = k + 2 - N in
        let q : i < N = omega (arith, w.within, w.some, w.spare) in
        let e : k + 2 ≡ i + N = omega arith in
        let f : (k + 2) % N ≡ i = ap (λ (y : ℕ). y % N) e ∙ add-mod_right i N ∙ mod-eq_of_lt q in
        let g : k - i ≡ N - 2 = omega (arith, w.within, w.some, w.spare) in
        rw (f, ← g) (w.down i (omega (arith, w.some, w.spare)))
  ]

  -- the run below the end, and the run below the top, begin at the oldest
  run_round : (e : ℕ) → status_at B s 0 ≢ 255 → RunFrom B s N e → k + 1 + (N - e) ≡ u
  run_round e n f = elim (dec_lt e (N + k + 1 - u)) [ yes a ↦ absurd (early a) | no a ↦ elim (dec_lt (N + k + 1 - u) e) [ yes b ↦ absurd (late b) | no b ↦ omega (arith, many, w.spare, f.within) ] ]
    where
      many : k < u
      many = is_used 0 k start n

      early : e < N + k + 1 - u → ⊥
      early a =
          let i = N + k - u in
          omega (arith, is_used i (k + N - i) (w.round i (omega (arith, w.spare)) (omega (arith, many))) (f.used i (omega (arith, w.spare)) (omega (arith, many))), w.spare)

      late : N + k + 1 - u < e → ⊥
      late a =
          let i = e - 1 in
          omega (arith, is_free i (k + N - i) (w.round i (omega (arith, w.spare)) (omega (arith, f.within))) (f.free (omega arith)), w.spare, f.within)

  run_down : (e : ℕ) → status_at B s 0 ≡ 255 → RunFrom B s k e → k + 1 - e ≡ u
  run_down e n f = elim (dec_lt e (k + 1 - u)) [ yes a ↦ absurd (early a) | no a ↦ elim (dec_lt (k + 1 - u) e) [ yes b ↦ absurd (late b) | no b ↦ omega (arith, many, f.within) ] ]
    where
      many : u ≤ k
      many = is_free 0 k start n

      early : e < k + 1 - u → ⊥
      early a =
          let i = k - u in
          omega (arith, is_used i (k - i) (w.down i (omega arith)) (f.used i (omega arith) (omega (arith, many, w.some))), many)

      late : k + 1 - u < e → ⊥
      late a =
          let i = e - 1 in
          omega (arith, is_free i (k - i) (w.down i (omega (arith, f.within))) (f.free (omega arith)), many, f.within)

  pub found_used : (r : ℕ) → UsedSeen N B s k r → r ≡ u
  found_used r (inl (n, e)) = omega (arith, e, is_used ((k + 2) % N) (N - 2) second n, w.spare)
  found_used r (inr (inl (n, (e, f, c)))) = c ∙ run_round e n f
  found_used r (inr (inr (n, (e, f, c)))) = c ∙ run_down e n f

-- ---- what is seen

pub top_within : (N B : ℕ) (s : Image) (r : ℕ) → TopSeen N B s r → r < N
top_within N B s r (inl (n, f)) = f.within
top_within N B s r (inr (n, f)) = f.within

pub used_some : (N B : ℕ) (s : Image) (top r : ℕ) → 2 ≤ N → UsedSeen N B s top r → 1 ≤ r
used_some N B s top r z (inl (n, e)) = omega (arith, e)
used_some N B s top r z (inr (inl (n, (e, f, c)))) = omega (arith, c)
used_some N B s top r z (inr (inr (n, (e, f, c)))) = omega (arith, c, f.within)

module _ (N B : ℕ) (s : Image) where
  is_broken : ((v : View) → Held N B s v → ⊥) → SeenRing N B s None
  is_broken f = record { bounded = tt; exact = λ z c. absurd (f (view N B s) (held_of_clean N B s z c)) }

  pub ring_short : N < 2 → SeenRing N B s None
  ring_short h = is_broken (λ v k. omega (arith, (size_facts N B s k.size).two))

  module _ (top used n : ℕ) (a : TopSeen N B s top) (b : UsedSeen N B s top used) (c : n ≡ number_at B s top) where
    -- the number of the top, its index and the count are those of the view
    pub record Told (v : View) : Type 0 where
      pub last : v.first + length v.slots ≡ n + 1
      pub counted : length v.slots ≡ used
      pub index : n % N ≡ top
      pub below : n < erase_limit * N
      pub spare : used < N

    told : (v : View) → Held N B s v → Told v
    told v k =
        let l = segments_of N B s in
        let t = next_number l - 1 in
        let w = turned N B s v k in
        let i : top ≡ t % N = found_top N B s _ _ _ w top a in
        let m : used ≡ length v.slots = found_used N B s _ _ _ w used (rw i at b) in
        let e : n ≡ t = c ∙ ap (λ (y : ℕ). number_at B s y) i ∙ top_number_lem N B s _ _ _ w in
        record {
          last = held_next N B s v k ∙ omega (arith, e, w.few, w.some, held_count N B s v k, used_next N l k.ring);
          counted = sym m;
          index = (rw e refl) ∙ sym i;
          below = omega (arith, e, w.below);
          spare = omega (arith, m, w.spare);
        }

    pub ring_all : N ≤ used → SeenRing N B s None
    ring_all h = is_broken (λ v k. omega (arith, (told v k).spare))

    pub ring_limit : erase_limit * N ≤ n → SeenRing N B s None
    ring_limit h = is_broken (λ v k. omega (arith, (told v k).below))

    pub ring_index : n % N ≢ top → SeenRing N B s None
    ring_index h = is_broken (λ v k. h (told v k).index)

    pub ring_few : n + 1 < used → SeenRing N B s None
    ring_few h = is_broken (λ v k. let d = told v k in omega (arith, d.last, d.counted))

    pub ring_seen : 2 ≤ N → used < N → n < erase_limit * N → used ≤ n + 1 → SeenRing N B s (Some (record { first = record { 0 = n + 1 - used }; used = used }))
    ring_seen z h q f = record { bounded = (used_some N B s top used z b, omega arith, omega arith); exact = λ y x. exactly (view N B s) (held_of_clean N B s y x) }
      where
        exactly : (v : View) → Held N B s v → ◌≡◌ {A = Option Ring} (Some (record { first = record { 0 = n + 1 - used }; used = used })) (Some (record { first = record { 0 = v.first }; used = length v.slots }))
        exactly v k =
            let d = told v k in
            let m : n + 1 - used ≡ v.first = omega (arith, d.last, d.counted) in
            rw (m, d.counted)
