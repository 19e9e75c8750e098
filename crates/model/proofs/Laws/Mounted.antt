-- Request #102, read back from its definitions: what a mount answers and leaves in each case, and the order of what refuses a mounted call.
use Rattle.std.specs.Prelude.{ℕ, ◌≤◌, ◌<◌, ◌≡◌, ◌≢◌, Bool, true, false, length, get_or}
use borrow.Author.Tests.{lt-ltb, le-ltb, ne_eqb}
use Rattle.model.specs.Chip.{Image, right_size}
use Rattle.model.specs.Slot.{number_ok}
use Rattle.model.specs.State.{Exception, clean, unfinished, damaged, state, view}
use Rattle.model.specs.Answers.{first_of, is_damaged, is_unfinished}
use Rattle.model.specs.Mounted.{Places, least_places, filled_places, unusable, mount_refusals, mount_outcome, mounted_refusals, mounted_refusal}

-- ---- a mount

module _ (N B : ℕ) (s : Image) (t : Places) where
  -- 1 and 10 don't touch the table, and 1 comes first, however short the table is
  pub mount_size : right_size N B s ≡ false → mount_outcome N B s t ≡ record { code = 1; places = t }
  unfolding mount_outcome mount_refusals first_of
  mount_size h = rw h

  module _ (z : right_size N B s ≡ true) where
    pub mount_short : length t < least_places → mount_outcome N B s t ≡ record { code = 10; places = t }
    unfolding mount_outcome mount_refusals first_of
    mount_short h = rw (z, lt-ltb (length t) least_places h)

    module _ (l : least_places ≤ length t) where
      pub mount_clean : state N B s ≡ clean → mount_outcome N B s t ≡ record { code = 0; places = filled_places N B (view N B s) t }
      unfolding mount_outcome mount_refusals first_of is_damaged is_unfinished
      mount_clean h = rw (z, le-ltb (length t) least_places l, h)

      -- 4 and 5 mark it unusable
      pub mount_damaged : state N B s ≡ damaged → mount_outcome N B s t ≡ record { code = 4; places = unusable t }
      unfolding mount_outcome mount_refusals first_of is_damaged is_unfinished
      mount_damaged h = rw (z, le-ltb (length t) least_places l, h)

      pub mount_unfinished : (x : Exception) → state N B s ≡ unfinished x → mount_outcome N B s t ≡ record { code = 5; places = unusable t }
      unfolding mount_outcome mount_refusals first_of is_damaged is_unfinished
      mount_unfinished x h = rw (z, le-ltb (length t) least_places l, h)

-- ---- a mounted call: 1, 10, 2, 3, and 5 for a table whose entry 0 is anything but 1

module _ (N B : ℕ) (s : Image) (t : Places) (b : ℕ) (taken : Bool) where
  pub refuses_size : right_size N B s ≡ false → mounted_refusal N B s t b taken ≡ 1
  unfolding mounted_refusal mounted_refusals first_of
  refuses_size h = rw h

  module _ (z : right_size N B s ≡ true) where
    pub refuses_short : length t < least_places → mounted_refusal N B s t b taken ≡ 10
    unfolding mounted_refusal mounted_refusals first_of
    refuses_short h = rw (z, lt-ltb (length t) least_places h)

    module _ (l : least_places ≤ length t) where
      pub refuses_number : number_ok b ≡ false → mounted_refusal N B s t b taken ≡ 2
      unfolding mounted_refusal mounted_refusals first_of
      refuses_number h = rw (z, le-ltb (length t) least_places l, h)

      module _ (n : number_ok b ≡ true) where
        pub refuses_length : taken ≡ false → mounted_refusal N B s t b taken ≡ 3
        unfolding mounted_refusal mounted_refusals first_of
        refuses_length h = rw (z, le-ltb (length t) least_places l, n, h)

        module _ (k : taken ≡ true) where
          pub refuses_unusable : get_or t 0 0 ≢ 1 → mounted_refusal N B s t b taken ≡ 5
          unfolding mounted_refusal mounted_refusals first_of
          refuses_unusable h = rw (z, le-ltb (length t) least_places l, n, k, ne_eqb (get_or t 0 0) 1 h)

          pub refuses_none : get_or t 0 0 ≡ 1 → mounted_refusal N B s t b taken ≡ 0
          unfolding mounted_refusal mounted_refusals first_of
          refuses_none h = rw (z, le-ltb (length t) least_places l, n, k, h)
