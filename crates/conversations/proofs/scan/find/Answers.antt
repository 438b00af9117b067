-- `conversations::scan::find` meets its contract: what the scan finds in the structs is what stands in the words.
use mathlib.Core.Path.{ap, ◌∙◌}
use native.Mathlib.Omega.{arith}
use lib.ListN.{length-map}
use Rattle.places.specs.Places.{place_of, places_of}
use Rattle.conversations.specs.Scan.{scan_of}
use Rattle.conversations.specs.declared.scan.Found.{Found}
use Rattle.conversations.proofs.ScanLaws.{scan_free}
use Rattle.conversations.proofs.scan.find.Goals as goal

pub returns-clause-free : goal.returns-clause-free
returns-clause-free c =
    let row = c.args.row.now in
    ap (λ (f : Found). f.free) (c.scan_in.ensures ∙ ap (scan_of c.args.q) c.load.ensures)
    ∙ scan_free c.args.q (places_of row) 8 (omega (arith, length-map row place_of))
