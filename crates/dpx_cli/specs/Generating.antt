-- The steps of a command that generates frames: this project's own.
use Rattle.std.specs.Prelude.{◌≡◌, ℕ, ◌+◌, ◌*◌, ◌/◌, Bool, List, ◌++◌, take, drop, length, ⊤}
use Rattle.std.specs.List.{filter, range_with_len}
use Rattle.std.specs.Str.{bytes_eq}
use Rattle.dpx_base.specs.declared.depth.Depth.{Depth}
use Rattle.dpx_base.specs.Capture.{IsCapture, header_bytes}
use Rattle.dpx_base.specs.PixelRecord.{pixel_record}
use Rattle.dpx_files.specs.Generator.{gen_link, gen_pixel, gen_pixels, gen_plan}
use Rattle.dpx_reception.specs.Laws.{SentIsReceived}
use Rattle.dpx_cli.specs.declared.stop.Stop.{Stop}
use Rattle.dpx_cli.specs.declared.stop.Stop.TheVariants.{WriteFault, NoMemory}

-- These bytes are the capture of a number's frames, and exactly these frames are received of what is behind its header:
-- every pixel, the attributes of each frame, and no tail.
pub record GoesRound (seed : ℕ) (bytes : List ℕ) : Type 0 where
  pub capture : IsCapture (gen_plan seed) (gen_pixels seed) bytes
  pub behind : List ℕ
  pub headed : bytes ≡ header_bytes (gen_link seed) ++ behind
  pub received : SentIsReceived (gen_plan seed) (gen_pixels seed) behind

-- what stops a sending into memory that is short of it: there is none, or what was taken is too little
abbrev pub IsForMemory : Stop → Type 0
IsForMemory WriteFault = ⊤
IsForMemory NoMemory = ⊤
IsForMemory other = ⊥

-- whether the record at this place is that of the number's pixel there
abbrev pub is_equal_at : (seed : ℕ) → Depth → (records : List ℕ) → (number : ℕ) → Bool
is_equal_at seed depth records number =
    bytes_eq (take 6 (drop (6 * number) records)) (pixel_record (gen_pixel seed depth number))

-- how many of the records are
unfoldable pub equal_pixels : (seed : ℕ) → Depth → (records : List ℕ) → ℕ
equal_pixels seed depth records =
    length (filter (is_equal_at seed depth records) (range_with_len 0 (length records / 6)))
