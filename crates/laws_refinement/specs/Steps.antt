-- A net and a later one: each step, and any number of them.
use Rattle.std.specs.Prelude.{◌≡◌, ◌⊎◌, ◌≤◌, ℕ, true, false, List, [], Option, Some, None}
use Rattle.qc_list.specs.Vocabulary.{In}
use Rattle.qc_stamp.specs.declared.stamp.TxId.{TxId}
use Rattle.qc_decl.specs.Vocabulary.{administrator, is_client, is_site}
use Rattle.qc_decl.specs.declared.declaration.Declaration.{Declaration}
use Rattle.qc_msg.specs.declared.message.Envelope.{Envelope}
use Rattle.qc_msg.specs.declared.message.Message.TheVariants.{Request}
use Rattle.qc_msg.specs.declared.message.Want.TheVariants as wants
use Rattle.qc_msg.specs.declared.record.Record.{Record}
use Rattle.qc_msg.specs.declared.step.Input.{Input}
use Rattle.qc_msg.specs.declared.turn.Posting.{Posting}
use Rattle.qc_epoch.specs.Vocabulary.{admin_takes}
use Rattle.qc_client.specs.Vocabulary.{client_takes}
use Rattle.qc_site.specs.Vocabulary.{site_takes}
use Rattle.qc_recover.specs.Vocabulary.{kept_by}
use Rattle.laws_refinement.specs.Net.{AreFailedSends, IsGivenBack, MayAdminister, MayCome, MayCommand, Net, after_admin}
use Rattle.laws_refinement.specs.Net.{after_admin_rise, after_client, after_client_rise, after_fall, after_site}
use Rattle.laws_refinement.specs.Net.{after_site_rise, after_vain_rise}

-- one step, the same ones as those of `Reaches`
pub data Step (decl : Declaration) : Net → Net → Type 0 where
  serves : (a : ℕ) (given : Input) (net : Net) → is_site decl a ≡ true → net.up a ≡ true
      → MayCome net a given → Step decl net (after_site net a (site_takes decl (net.sites a) given))
  takes : (a : ℕ) (given : Input) (net : Net) → is_client decl a ≡ true → net.up a ≡ true
      → MayCome net a given → MayCommand decl (net.clients a) given
      → Step decl net (after_client net a (client_takes decl (net.clients a) given))
  administers : (given : Input) (net : Net) → net.up (administrator decl) ≡ true
      → MayCome net (administrator decl) given → MayAdminister decl given
      → Step decl net (after_admin decl net (admin_takes decl net.admin given))
  -- an actor that is up falls
  site_falls : (a : ℕ) (net : Net) → is_site decl a ≡ true → net.up a ≡ true
      → Step decl net (after_fall net a None [])
  client_falls : (a : ℕ) (net : Net) → is_client decl a ≡ true → net.up a ≡ true
      → Step decl net (after_fall net a None [])
  admin_falls : (net : Net) → net.up (administrator decl) ≡ true
      → Step decl net (after_fall net (administrator decl) None [])
  -- or it falls in a turn whose record isn't written
  site_fails : (a : ℕ) (given : Input) (written : Record) (sends : List Posting) (net : Net)
      → is_site decl a ≡ true → net.up a ≡ true → MayCome net a given
      → (site_takes decl (net.sites a) given).turn.write ≡ Some written
      → AreFailedSends (site_takes decl (net.sites a) given).turn sends
      → Step decl net (after_fall net a (Some written) sends)
  client_fails : (a : ℕ) (given : Input) (written : Record) (sends : List Posting) (net : Net)
      → is_client decl a ≡ true → net.up a ≡ true → MayCome net a given → MayCommand decl (net.clients a) given
      → (client_takes decl (net.clients a) given).turn.write ≡ Some written
      → AreFailedSends (client_takes decl (net.clients a) given).turn sends
      → Step decl net (after_fall net a (Some written) sends)
  admin_fails : (given : Input) (written : Record) (sends : List Posting) (net : Net)
      → net.up (administrator decl) ≡ true → MayCome net (administrator decl) given → MayAdminister decl given
      → (admin_takes decl net.admin given).turn.write ≡ Some written
      → AreFailedSends (admin_takes decl net.admin given).turn sends
      → Step decl net (after_fall net (administrator decl) (Some written) sends)
  -- one that is down rises
  site_rises_up : (a : ℕ) (back : Option Record) (net : Net) → is_site decl a ≡ true
      → net.up a ≡ false → IsGivenBack net a back → Step decl net (after_site_rise decl net a back)
  client_rises_up : (a : ℕ) (back : Option Record) (net : Net) → is_client decl a ≡ true
      → net.up a ≡ false → IsGivenBack net a back → Step decl net (after_client_rise decl net a back)
  admin_rises_up : (back : Option Record) (net : Net) → net.up (administrator decl) ≡ false
      → IsGivenBack net (administrator decl) back → Step decl net (after_admin_rise decl net back)
  -- or rises and falls at once
  site_rises_in_vain : (a : ℕ) (back : Option Record) (net : Net) → is_site decl a ≡ true
      → net.up a ≡ false → IsGivenBack net a back → Step decl net (after_vain_rise net a back)
  client_rises_in_vain : (a : ℕ) (back : Option Record) (net : Net) → is_client decl a ≡ true
      → net.up a ≡ false → IsGivenBack net a back → Step decl net (after_vain_rise net a back)
  admin_rises_in_vain : (back : Option Record) (net : Net) → net.up (administrator decl) ≡ false
      → IsGivenBack net (administrator decl) back → Step decl net (after_vain_rise net (administrator decl) back)

-- a later net: after any number of steps, or none
pub data IsLater (decl : Declaration) (net : Net) : Net → Type 0 where
  same : IsLater decl net net
  more : (middle next : Net) → IsLater decl net middle → Step decl middle next → IsLater decl net next

-- a vote of the later net that isn't of the earlier one: it names no life, or none below that of the site's records
-- then
pub record IsNamedLater (net next : Net) (a to : ℕ) : Type 0 where
  pub request : Envelope
  pub sent : In request next.mail
  pub numbered : request.number ≡ to
  pub tx : TxId
  pub epoch : ℕ
  pub life : ℕ
  pub named : request.message ≡ Request tx epoch life wants.Prepare
  pub low : (life ≡ 0) ⊎ ((kept_by (net.records a)).life ≤ life)
