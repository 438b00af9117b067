-- 01, "What a frame shows", Link. s is the frame's bytes, and every offset counts from the frame's start.
-- Assumes nothing.
use Rattle.std.specs.Prelude.{ℕ, ◌/◌, ◌%◌, List, Bool, cond, None, Some, eqb}
use Rattle.numbers.specs.Bytes.{be16, be48}
use Rattle.packets.specs.declared.Tag.{Tag}
use Rattle.packets.specs.declared.Link.{Link}

-- "destination MAC 0-5, source MAC 6-11", the ether type at 12; where the frame is tagged, the tag at 14 and the ether type at 16
abbrev pub destination_at : ℕ
destination_at = 0

abbrev pub source_at : ℕ
source_at = 6

abbrev pub ether_at : ℕ
ether_at = 12

abbrev pub tag_at : ℕ
tag_at = 14

abbrev pub tagged_ether_at : ℕ
tagged_ether_at = 16

-- "the rest starts at 14", or "at 18" where the frame is tagged
abbrev pub link_bytes : ℕ
link_bytes = 14

abbrev pub tagged_bytes : ℕ
tagged_bytes = 18

-- the ether type that says a tag follows; what divides off a tag's "top 3 bits", and its "low 12"
abbrev pub tag_type : ℕ
tag_type = 0x8100

abbrev pub top3 : ℕ
top3 = 8192

abbrev pub low12 : ℕ
low12 = 4096

-- "If bytes 12-13 are 0x8100 the frame is tagged"
unfoldable pub tagged : List ℕ → Bool
tagged s = eqb (be16 s ether_at) tag_type

-- "bytes 14-15 give priority (top 3 bits) and VLAN id (low 12)"
unfoldable pub tag_of : List ℕ → Tag
tag_of s = record { priority = be16 s tag_at / top3; vlan = be16 s tag_at % low12 }

-- tagged, "bytes 16-17 the ether type, and the rest starts at 18. Otherwise bytes 12-13 are the ether type and the rest starts at 14"
unfoldable pub link_of : List ℕ → Link
link_of s =
    cond (tagged s)
    (record {
      destination = be48 s destination_at;
      source = be48 s source_at;
      tag = Some (tag_of s);
      ether = be16 s tagged_ether_at;
      hlen = tagged_bytes;
    })
    (record {
      destination = be48 s destination_at;
      source = be48 s source_at;
      tag = None;
      ether = be16 s ether_at;
      hlen = link_bytes;
    })
