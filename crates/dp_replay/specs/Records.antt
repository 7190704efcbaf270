-- Pixels from records of bytes: this project's own.
use Rattle.std.specs.Prelude.{◌≡◌, ℕ, zero, suc, ◌*◌, ◌+◌, ◌/◌, List, [], ◌∷◌, length, take, drop, Option, IfSome}
use Rattle.std.specs.Io.KnownBytes.{Consumes, prepend_known}
use Rattle.dpx_base.specs.declared.pixel.Pixel.{Pixel}
use Rattle.dpx_base.specs.PixelRecord.{pixel_from}
use Rattle.dpx_base.specs.Seen.{SourceSeen}

-- what was read and not taken yet, and what the source has behind it
pub record RecordsSeen : Type 0 where
  pub waiting : List ℕ
  pub source : SourceSeen

-- nothing was read yet
abbrev pub unread : SourceSeen → RecordsSeen
unread source = record { waiting = []; source = source }

-- the bytes that are left, where the source tells its own
abbrev pub left_of : RecordsSeen → Option (List ℕ)
left_of r = prepend_known r.waiting r.source.left

-- the pixels of so many records
abbrev pub pixels_from : ℕ → List ℕ → List Pixel
pixels_from zero bytes = []
pixels_from (suc more) bytes = pixel_from (take 6 bytes) ∷ pixels_from more (drop 6 bytes)

-- so many records were taken, and these are their pixels
pub record TakesPixels (due : ℕ) (before now : Option (List ℕ)) (pixels : List Pixel) : Type 0 where
  pub bytes : List ℕ
  pub size : length bytes ≡ 6 * due
  pub consumed : Consumes before now bytes
  pub pixels_are : pixels ≡ pixels_from due bytes

-- there are so many whole records
abbrev pub HasRecords : ℕ → Option (List ℕ) → Type 0
HasRecords whole left = IfSome left (λ bytes. length bytes / 6 ≡ whole)

-- behind those that were given there are so many pixels in all, of whole records
abbrev pub HoldsInAll : (given n : ℕ) → Option (List ℕ) → Type 0
HoldsInAll given n left = IfSome left (λ bytes. n ≡ given + length bytes / 6)
