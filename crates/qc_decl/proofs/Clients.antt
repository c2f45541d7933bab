-- Where a client's number stands: behind the sites', before the administrator's.
use Rattle.std.proofs.Common.{◌≡◌, ℕ, ◌<◌, ◌≤◌, nat_le, nat_lt, Bool, true, false, refl, arith}
use Rattle.std.proofs.lemmas.Bool.{leb-true, ltb-true}
use Rattle.qc_decl.specs.Vocabulary.{actors, administrator, is_client, is_site}
use Rattle.qc_decl.specs.declared.declaration.Declaration.{Declaration}
use Rattle.qc_list.proofs.Booleans.{and_parts}

module _ (decl : Declaration) (a : ℕ) (client : is_client decl a ≡ true) where
  pub client_past : decl.sites ≤ a
  client_past = leb-true decl.sites a (and_parts (nat_le decl.sites a) (nat_lt a (administrator decl)) client).0

  pub client_below : a < administrator decl
  client_below =
      ltb-true a (administrator decl) (and_parts (nat_le decl.sites a) (nat_lt a (administrator decl)) client).1

  -- it takes inputs
  pub client_within : a < actors decl
  client_within = let low : a < administrator decl = client_below in omega arith

  pub client_no_site : is_site decl a ≡ false
  client_no_site = by (is_site decl a) refl
    where
      by : (t : Bool) → is_site decl a ≡ t → t ≡ false
      by false is = refl
      by true is = absurd (let low : a < decl.sites = ltb-true a decl.sites is in
          let past : decl.sites ≤ a = client_past in let never : ⊥ = omega arith in never)
