-- The link that a job asks for: this project's own.
use Rattle.std.specs.Prelude.{ℕ, Bool, true, if◌then◌else◌, List, codes, Option, Some, None, option_and_then, Result, Ok}
use Rattle.std.specs.Str.{bytes_eq}
use Rattle.serde_json.specs.Data.{Data}
use Rattle.serde_json.specs.Find.{get, as_str}
use Rattle.dpx_base.specs.declared.rate.Rate.{Rate}
use Rattle.dpx_base.specs.declared.rate.Rate.TheVariants.{Rbr, Hbr, Hbr2, Hbr3}
use Rattle.dpx_base.specs.declared.lanes.Lanes.{Lanes}
use Rattle.dpx_base.specs.declared.link.Link.{Link}
use Rattle.dpx_base.specs.Lanes.{lanes_from_count}
use Rattle.dpx_base.specs.Rate.{rate_name}
use Rattle.dpx_files.specs.declared.refusal.Field.{Field}
use Rattle.dpx_files.specs.declared.refusal.Field.TheVariants as field
use Rattle.dpx_files.specs.Refusal.{wanted, ◌>>=◌}
use Rattle.dpx_files.specs.Members.{whole_number, flag_of, object_in, or_default}

-- the rate of a name
abbrev pub rate_named : List ℕ → Option Rate
rate_named name =
    if bytes_eq name (rate_name Rbr) then Some Rbr
    else if bytes_eq name (rate_name Hbr) then Some Hbr
    else if bytes_eq name (rate_name Hbr2) then Some Hbr2
    else if bytes_eq name (rate_name Hbr3) then Some Hbr3
    else None

-- `rate`: the name of a rate
abbrev pub rate_of : Data → Result Rate Field
rate_of link = wanted field.Rate (option_and_then rate_named (option_and_then as_str (get (codes "rate") link)))

-- `lanes`: 1, 2 or 4
abbrev pub lanes_of : Data → Result Lanes Field
lanes_of link =
    wanted field.Lanes (option_and_then lanes_from_count (option_and_then whole_number (get (codes "lanes") link)))

-- `enhanced`: 1 where the source knows enhanced framing, 0 where it sends default framing alone; or 1
abbrev pub enhanced_of : Data → Result Bool Field
enhanced_of link = or_default field.Enhanced flag_of true (get (codes "enhanced") link)

-- `link`: an object with these
unfoldable pub link_of : Data → Result Link Field
link_of root = do
  link ← object_in field.Link (get (codes "link") root)
  rate ← rate_of link
  lanes ← lanes_of link
  enhanced ← enhanced_of link
  Ok (record { rate = rate; lanes = lanes; enhanced = enhanced })
