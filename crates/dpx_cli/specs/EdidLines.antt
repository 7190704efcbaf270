-- The lines of the command `edid`: this project's own. Each ends with one line feed.
use Rattle.std.specs.Prelude.{ℕ, ◌+◌, Bool, if◌then◌else◌, List, [], ◌∷◌, ◌++◌, codes}
use Rattle.dpx_base.specs.declared.raw_mode.ModeField.{ModeField}
use Rattle.dpx_base.specs.declared.raw_mode.ModeField.TheVariants.{Width, Height, Htotal, Vtotal, Hsw, Hstart, Vsw}
use Rattle.dpx_base.specs.declared.raw_mode.ModeField.TheVariants.{Vstart, Clock}
use Rattle.dpx_base.specs.Mode.{ModeFacts}
use Rattle.dpx_aux.specs.declared.asking.LastAnswer.{LastAnswer}
use Rattle.dpx_edid.specs.declared.edid.Edid.{Edid}
use Rattle.dpx_edid.specs.declared.edid.EdidBad.{EdidBad}
use Rattle.dpx_edid.specs.declared.edid.EdidBad.TheVariants.{Header, Sum, Version}
use Rattle.dpx_edid.specs.declared.fetch.FetchEnd.{FetchEnd}
use Rattle.dpx_edid.specs.declared.fetch.I2cEnd.{I2cEnd}
use Rattle.dpx_edid.specs.declared.fetch.I2cEnd.TheVariants.{Refused, Spent}
use Rattle.dpx_edid.specs.declared.timing.Slot.{Slot}
use Rattle.dpx_edid.specs.declared.timing.Slot.TheVariants.{Other, Interlaced, Illegal, Timing}
use Rattle.dpx_reception.specs.Digits.{hex_byte}
use Rattle.dpx_cli.specs.Lines.{line_feed, last_word_of, requests_text}
use Rattle.dpx_cli.specs.SendLines.{named}

unfoldable pub edid_line : (version revision requests : ℕ) → List ℕ
edid_line version revision requests =
    named (codes "edid ") version ++ named (codes ".") revision ++ requests_text requests

-- the name of a field's member in a job
abbrev pub mode_field_word : ModeField → List ℕ
mode_field_word Width = codes "width"
mode_field_word Height = codes "height"
mode_field_word Htotal = codes "htotal"
mode_field_word Vtotal = codes "vtotal"
mode_field_word Hsw = codes "hsw"
mode_field_word Hstart = codes "hstart"
mode_field_word Vsw = codes "vsw"
mode_field_word Vstart = codes "vstart"
mode_field_word Clock = codes "clock"

unfoldable pub sizes_text : ModeFacts → List ℕ
sizes_text mode =
    named (codes " width ") mode.width ++ named (codes " height ") mode.height
    ++ named (codes " total ") mode.htotal ++ named (codes " ") mode.vtotal

unfoldable pub syncs_text : ModeFacts → List ℕ
syncs_text mode =
    named (codes " start ") mode.hstart ++ named (codes " ") mode.vstart
    ++ named (codes " sync ") mode.hsw ++ named (codes " ") mode.vsw

abbrev pub bit : Bool → ℕ
bit set = if set then 1 else 0

unfoldable pub rest_text : ModeFacts → List ℕ
rest_text mode =
    named (codes " polarity ") (bit mode.hsp) ++ named (codes " ") (bit mode.vsp)
    ++ named (codes " clock ") mode.clock_khz

-- the numbers of a mode
unfoldable pub timing_text : ModeFacts → List ℕ
timing_text mode = sizes_text mode ++ syncs_text mode ++ rest_text mode

abbrev pub slot_text : Slot → List ℕ
slot_text Other = codes " other"
slot_text Interlaced = codes " interlaced"
slot_text (Illegal field) = codes " illegal " ++ mode_field_word field
slot_text (Timing mode) = timing_text mode

unfoldable pub slot_line : ℕ → Slot → List ℕ
slot_line number slot = named (codes "slot ") number ++ slot_text slot ++ line_feed

-- a line for each slot, numbered from this number on
unfoldable pub slot_lines : ℕ → List Slot → List ℕ
slot_lines number [] = []
slot_lines number (slot ∷ slots) = slot_line number slot ++ slot_lines (number + 1) slots

-- what a base block says, which was fetched with so many requests
unfoldable pub edid_report : Edid → ℕ → List ℕ
edid_report edid requests = edid_line edid.version edid.revision requests ++ slot_lines 0 edid.slots

unfoldable pub refused_line : ℕ → List ℕ
refused_line requests = codes "i2c refused" ++ requests_text requests

unfoldable pub spent_line : LastAnswer → ℕ → List ℕ
spent_line last requests = codes "i2c spent last " ++ last_word_of last ++ requests_text requests

-- why no base block was fetched
abbrev pub cause_line : I2cEnd → ℕ → List ℕ
cause_line Refused requests = refused_line requests
cause_line (Spent last) requests = spent_line last requests

abbrev pub unfetched_line : FetchEnd → List ℕ
unfetched_line end = cause_line end.why end.requests

unfoldable pub bad_place_line : (place requests : ℕ) → List ℕ
bad_place_line place requests = named (codes "edid header ") place ++ requests_text requests

unfoldable pub bad_byte_line : List ℕ → (byte requests : ℕ) → List ℕ
bad_byte_line text byte requests = text ++ hex_byte byte ++ requests_text requests

-- why a base block is refused
abbrev pub bad_edid_line : EdidBad → ℕ → List ℕ
bad_edid_line (Header place) requests = bad_place_line place requests
bad_edid_line (Sum value) requests = bad_byte_line (codes "edid sum ") value requests
bad_edid_line (Version value) requests = bad_byte_line (codes "edid version ") value requests
