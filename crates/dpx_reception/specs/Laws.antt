-- What holds of the reception of all bytes.
use Rattle.std.specs.Prelude.{ℕ, ◌≡◌, ◌≢◌, ◌*◌, List, ◌++◌, Option, Some, replicate}
use Rattle.std.specs.List.{flat_map}
use Rattle.dpx_base.specs.declared.link.Link.{Link}
use Rattle.dpx_base.specs.declared.pixel.Pixel.{Pixel}
use Rattle.dpx_base.specs.Capture.{IsCapture, header_bytes}
use Rattle.dpx_base.specs.Lanes.{lanes_count}
use Rattle.dpx_base.specs.Plan.{PlanFacts, IsPlan}
use Rattle.dpx_base.specs.Slots.{header_start}
use Rattle.dpx_grammar.specs.Accepted.{Frame}
use Rattle.dpx_inversion.specs.Laws.{AreWhole, sent_frames}
use Rattle.dpx_msa.specs.Reading.{attributes_of}
use Rattle.dpx_reception.specs.Bytes.{left_over}
use Rattle.dpx_reception.specs.Reception.{Fault, no_fault, Reception, Locks}
use Rattle.dpx_reception.specs.Due.{pixel_records, records_due, attributes_line, lines_due, whole_frames, whole_lines}
use Rattle.dpx_reception.specs.Due.{Due, PartlyDue}

-- What is received of bytes is one: no other fault, no other frames and no other tail; and the lock is one.
abbrev pub IsOneReception : Type 0
IsOneReception =
    (link : Link) (bytes : List ℕ) (fault other_fault : Fault) (frames others : List Frame) (tail other : ℕ)
    → Reception link bytes fault frames tail → Reception link bytes other_fault others other
    → (fault ≡ other_fault) × (frames ≡ others) × (tail ≡ other)

abbrev pub IsOneLock : Type 0
IsOneLock = (link : Link) (bytes : List ℕ) (lock other : Option ℕ) → Locks link bytes lock → Locks link bytes other
    → lock ≡ other

-- From the first fault on, bytes that follow change nothing.
abbrev pub FaultsStay : Type 0
FaultsStay =
    (link : Link) (bytes more : List ℕ) (fault : Fault) (frames : List Frame) (tail : ℕ) → fault ≢ no_fault
    → Reception link bytes fault frames tail → Reception link (bytes ++ more) fault frames tail

-- a list goes on with others
abbrev pub IsFront : List ℕ → List ℕ → Type 0
IsFront front all = (rest : List ℕ) × (all ≡ front ++ rest)

-- What is due of bytes is due of longer ones, and nothing is taken back.
abbrev pub DueStays : Type 0
DueStays =
    (link : Link) (bytes more : List ℕ) (fault other : Fault) (records others text texts : List ℕ)
    → Due link bytes fault records text → Due link (bytes ++ more) other others texts
    → IsFront records others × IsFront text texts

-- What some first sets of bytes give is due of the bytes.
abbrev pub PartsAreFronts : Type 0
PartsAreFronts =
    (link : Link) (bytes more : List ℕ) (fault : Fault) (records others text texts : List ℕ)
    → PartlyDue link bytes records text → Due link (bytes ++ more) fault others texts
    → IsFront records others × IsFront text texts

-- what is received of the bytes behind the header of a plan's capture
pub record SentIsReceived (p : PlanFacts) (pixels : List Pixel) (bytes : List ℕ) : Type 0 where
  pub received : Reception p.link bytes no_fault (sent_frames p pixels) 0
  pub lock : Locks p.link bytes (Some (header_start p 0))
  pub whole : left_over (lanes_count p.link.lanes) bytes ≡ 0
  pub records : records_due (sent_frames p pixels) ≡ pixel_records pixels
  pub text : lines_due (sent_frames p pixels)
      ≡ flat_map (λ line. line) (replicate p.frames (attributes_line (attributes_of p.mode p.link)))
  pub frames : whole_frames (sent_frames p pixels) ≡ p.frames
  pub lines : whole_lines (sent_frames p pixels) ≡ p.frames * p.mode.height

-- A capture of a plan that fits and of exactly its pixels has no fault, and gives back the pixels, the attributes of
-- each frame, and no tail.
abbrev pub CapturesAreReceived : Type 0
CapturesAreReceived =
    (p : PlanFacts) (pixels : List Pixel) (bytes : List ℕ) → IsPlan p → AreWhole p pixels
    → IsCapture p pixels (header_bytes p.link ++ bytes) → SentIsReceived p pixels bytes
