-- The buffers for images and texts.
use Rattle.std.specs.Prelude.{ℕ, Bool, true, false, cond, ltb, leb, Option, Some, None}
use Rattle.model.specs.Chip.{largest_image}
use Rattle.qbx_rooms.specs.declared.Buffer.{Buffer}
use Rattle.qbx_rooms.specs.declared.Buffer.TheVariants.{Small, Middle, Large}

-- the bytes of the largest image that a buffer holds
unfoldable pub room_of : Buffer → ℕ
room_of Small = 1048576
room_of Middle = 4194304
room_of Large = largest_image

-- the smallest that holds an image of so many bytes; what is larger than all is left to the last
unfoldable pub smallest_for : ℕ → Buffer
smallest_for s = cond (leb s (room_of Small)) Small (cond (leb s (room_of Middle)) Middle Large)

-- the KiB of stack that it asks for, with or without a buffer for a text beside it: Linux lets the arguments and the environment have a quarter of them, at most 6 MiB, and the rest holds the buffers and the frames below them
unfoldable pub need_of : Bool → Buffer → ℕ
need_of true Small = 2560
need_of true Middle = 7168
need_of true Large = 26624
need_of false Small = 1536
need_of false Middle = 6144
need_of false Large = 24576

-- the KiB of stack that two such buffers ask for, with tables of 384 KiB: for the images of a move or a rebuild
unfoldable pub move_need_of : Buffer → ℕ
move_need_of Small = 3584
move_need_of Middle = 12288
move_need_of Large = 39936

-- what is asked for, where less is allowed
unfoldable pub lack_of : ℕ → ℕ → Option ℕ
lack_of needed allowed = cond (ltb allowed needed) (Some needed) None
