-- The frames of a byte string.
use Rattle.std.specs.Prelude.{◌≡◌, ℕ, zero, suc, ◌==◌, ◌<◌, ◌^◌, ◌&&◌, ◌||◌, Bool, List, All}
use Rattle.std.specs.Prelude.{length, take, drop, nat_le, nat_lt, if◌then◌else◌}
use Rattle.byteorder.specs.Endian.{little_number}
use Rattle.p9_wire.specs.declared.frame.Frame.{Frame}
use Rattle.p9_wire.specs.declared.frame.Frame.TheVariants.{Need, Whole, Broken}

-- each item is a byte
abbrev pub IsBytes : List ℕ → Type 0
IsBytes bytes = All (λ b. b < 2 ^ 8) bytes

-- the greatest size of a frame
abbrev pub msize_max : ℕ
msize_max = 1048576

-- the least size of a frame: that of the header
abbrev pub header : ℕ
header = 7

-- one whole frame: as many bytes as its size says, no fewer than a header has, and no more than the
-- greatest frame has
abbrev pub is_frame : List ℕ → Bool
is_frame frame =
    nat_le header (length frame) && nat_le (length frame) msize_max
    && little_number 4 frame == length frame

-- what is at the front of bytes: four of them say a frame's size, which counts itself
abbrev pub first_frame : List ℕ → Frame
first_frame bytes =
    if nat_lt (length bytes) 4 then Need
    else (let size = little_number 4 bytes in
    if nat_lt size header || nat_lt msize_max size then Broken
    else (if nat_lt (length bytes) size then Need else Whole size))

-- whole frames from the front, ended by a rest that is no whole frame or by a size of no frame
pub data Frames : Type 0 where
  Next : (frame : List ℕ) (others : Frames) → Frames
  Rest : (bytes : List ℕ) → Frames
  BrokenSize : Frames

-- what begins so, and what to make of the bytes after a whole frame
abbrev pub frames_by : Frame → List ℕ → (List ℕ → Frames) → Frames
frames_by Need bytes others = Rest bytes
frames_by (Whole size) bytes others = Next (take size bytes) (others (drop size bytes))
frames_by Broken bytes others = BrokenSize

-- at most so many frames from the front; these are all frames, if the bytes are no more than that
unfoldable pub frames_within : (most : ℕ) (bytes : List ℕ) → Frames
frames_within zero bytes = Rest bytes
frames_within (suc n) bytes = frames_by (first_frame bytes) bytes (frames_within n)

-- all frames of a byte string
unfoldable pub frames : List ℕ → Frames
frames bytes = frames_within (length bytes) bytes

-- this is the first case of the frames of these bytes
abbrev pub BeginsFrames : Frame → List ℕ → Type 0
BeginsFrames Need bytes = frames bytes ≡ Rest bytes
BeginsFrames (Whole size) bytes = frames bytes ≡ Next (take size bytes) (frames (drop size bytes))
BeginsFrames Broken bytes = frames bytes ≡ BrokenSize
