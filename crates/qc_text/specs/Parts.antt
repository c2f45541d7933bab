-- How stamps, transactions, actors and sets of sites are written.
use Rattle.std.specs.Prelude.{ℕ, ◌-◌, Bool, if◌then◌else◌, List, [], ◌++◌, codes, decimal, flat_map}
use Rattle.std.specs.List.{list_any, range_with_len}
use Rattle.qc_stamp.specs.declared.stamp.Stamp.{Stamp}
use Rattle.qc_stamp.specs.declared.stamp.TxId.{TxId}
use Rattle.qc_table.specs.Vocabulary.{has}
use Rattle.qc_decl.specs.Vocabulary.{is_client, is_site, most_sites}
use Rattle.qc_decl.specs.declared.declaration.Declaration.{Declaration}

-- a stamp as clock and client, `1.0`
abbrev pub stamp_text : Stamp → List ℕ
stamp_text s = decimal s.clock ++ (codes "." ++ decimal s.client)

-- a transaction as client, life and number, `0.1.1`
abbrev pub transaction_text : TxId → List ℕ
transaction_text t = decimal t.client ++ (codes "." ++ (decimal t.life ++ (codes "." ++ decimal t.number)))

-- a site as `s0`
abbrev pub site_text : ℕ → List ℕ
site_text site = codes "s" ++ decimal site

-- a site, a client as `c0`, and the administrator, who is the only other actor that is asked anything
abbrev pub actor_text : Declaration → ℕ → List ℕ
actor_text decl a =
    if is_site decl a then site_text a
    else (if is_client decl a then codes "c" ++ decimal (a - decl.sites) else codes "admin")

-- the sites of a set, each after a space, and `-` where there is none: site k is in it where bit k of the number is 1

abbrev pub has_any : ℕ → Bool
has_any set = list_any (has set) (range_with_len 0 most_sites)

abbrev pub member_text : ℕ → ℕ → List ℕ
member_text set site = if has set site then codes " " ++ site_text site else []

abbrev pub set_text : ℕ → List ℕ
set_text set = if has_any set then flat_map (member_text set) (range_with_len 0 most_sites) else codes " -"
