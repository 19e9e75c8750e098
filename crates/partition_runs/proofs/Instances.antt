-- A board's life, computed: five writes on two partitions, two of them cut. What the definitions of histories give, and so which wrong ones they are not.
use Rattle.std.specs.Prelude.{ℕ, ◌≡◌, refl, List, [], ◌∷◌, ◌++◌, map, length, take}
use Rattle.model.specs.Chip.{Image, erased}
use Rattle.model.specs.Histories.{Reply}
use Rattle.partitions.specs.Partitions.{nothing, newest, newest_of}
use Rattle.partitions.proofs.Instances.{computes, two}
use Rattle.partition_runs.specs.Law.{Call, outcome_of, play, answers, steps_done, statuses_set, last_of, reply_to, map_of, found, reply_of, stored, stored_all}

-- every definition unfolds where this name does
unfoldable lived : ℕ
unfolding computes outcome_of play answers steps_done statuses_set last_of reply_to map_of found reply_of stored stored_all
lived = 0

abbrev call : ℕ → List ℕ → ℕ → Call
call i d n = record { layout = two; item = i; contents = d; allowance = n }

unfoldable pub board : Image
board = erased 12

-- item 7, the first write; item 1 in place, cut before its identifier; item 1 again, half written and so to partition 1; item 7 anew, to partition 0, cut before its status; and once more
unfoldable pub writes : List Call
writes = call 7 (5 ∷ []) 100 ∷ call 1 (10 ∷ 11 ∷ []) 2 ∷ call 1 (12 ∷ 13 ∷ []) 7 ∷ call 7 (6 ∷ []) 6 ∷ call 7 (6 ∷ []) 7 ∷ []

answered : answers 2 board writes ≡ 0 ∷ 9 ∷ 0 ∷ 9 ∷ 0 ∷ []
unfolding lived board writes
answered = refl

-- statuses 0, 1 and 2, in partitions 0, 1 and 0
ends_so : play 2 board writes ≡ (2 ∷ 1 ∷ 12 ∷ 13 ∷ 7 ∷ 6 ∷ []) ++ (1 ∷ 1 ∷ 12 ∷ 13 ∷ 7 ∷ 5 ∷ [])
unfolding lived board writes
ends_so = refl

set_so : (statuses_set 6 (steps_done 2 board writes) ≡ 0 ∷ 1 ∷ 0 ∷ []) × (last_of (0 ∷ 1 ∷ 0 ∷ []) ≡ newest 0) × (last_of (0 ∷ 1 ∷ []) ≡ newest 1) × (last_of [] ≡ nothing) × (length (steps_done 2 board writes) ≡ 26)
unfolding lived board writes
set_so = (refl, refl, refl, refl, refl)

-- the newest, after none and after each of them
newest_so : map (λ n. newest_of 2 (play 2 board (take n writes))) (0 ∷ 1 ∷ 2 ∷ 3 ∷ 4 ∷ 5 ∷ []) ≡ nothing ∷ newest 0 ∷ newest 0 ∷ newest 1 ∷ newest 1 ∷ newest 0 ∷ []
unfolding lived board writes
newest_so = refl

abbrev told : ℕ → List ℕ → Reply
told code bytes = record { code = code; bytes = bytes }

-- what reads of items 1, 7 and 2 are told after each: a cut write shows in none
read_so : map {A = ℕ} {B = List Reply} (λ n. map (reply_to 2 two (play 2 board (take n writes))) (1 ∷ 7 ∷ 2 ∷ [])) (0 ∷ 1 ∷ 2 ∷ 3 ∷ 4 ∷ 5 ∷ [])
    ≡ (told 5 [] ∷ told 5 [] ∷ told 3 [] ∷ [])
    ∷ (told 5 [] ∷ told 0 (5 ∷ []) ∷ told 3 [] ∷ [])
    ∷ (told 5 [] ∷ told 0 (5 ∷ []) ∷ told 3 [] ∷ [])
    ∷ (told 0 (12 ∷ 13 ∷ []) ∷ told 0 (5 ∷ []) ∷ told 3 [] ∷ [])
    ∷ (told 0 (12 ∷ 13 ∷ []) ∷ told 0 (5 ∷ []) ∷ told 3 [] ∷ [])
    ∷ (told 0 (12 ∷ 13 ∷ []) ∷ told 0 (6 ∷ []) ∷ told 3 [] ∷ [])
    ∷ []
unfolding lived board writes
read_so = refl

-- and what the plain map says after two of them, of which one was cut, and at the end
map_cut : map (reply_of two (stored_all (take 2 writes) (0 ∷ 9 ∷ []) (map_of 2 two board))) (1 ∷ 7 ∷ []) ≡ told 5 [] ∷ told 0 (5 ∷ []) ∷ []
unfolding lived board writes
map_cut = refl

map_so : map (reply_of two (stored_all writes (0 ∷ 9 ∷ 0 ∷ 9 ∷ 0 ∷ []) (map_of 2 two board))) (1 ∷ 7 ∷ 2 ∷ []) ≡ told 0 (12 ∷ 13 ∷ []) ∷ told 0 (6 ∷ []) ∷ told 3 [] ∷ []
unfolding lived board writes
map_so = refl
