-- The header of a capture, read: this project's own.
use Rattle.std.specs.Prelude.{◌==◌, ℕ, if◌then◌else◌, List, slice_index, Option, Some, None, option_map, option_and_then}
use Rattle.std.specs.Str.{bytes_eq}
use Rattle.dpx_base.specs.declared.link.Link.{Link}
use Rattle.dpx_base.specs.Capture.{header_bytes}
use Rattle.dpx_base.specs.Lanes.{lanes_from_count}
use Rattle.dpx_base.specs.Rate.{rate_from_code}

-- the link that a header with these bytes tells: bytes 4 to 6 are its lanes, its rate and its framing
abbrev pub link_told : List ℕ → Option Link
link_told bytes =
    option_and_then
    (λ lanes. option_map (λ rate. record { rate = rate; lanes = lanes; enhanced = slice_index bytes 6 == 1 })
    (rate_from_code (slice_index bytes 5)))
    (lanes_from_count (slice_index bytes 4))

-- that link, where the bytes are its header
abbrev pub if_header : List ℕ → Link → Option Link
if_header bytes link = if bytes_eq (header_bytes link) bytes then Some link else None

-- the link whose header the bytes are, if there is one
unfoldable pub header_in : List ℕ → Option Link
header_in bytes = option_and_then (if_header bytes) (link_told bytes)
