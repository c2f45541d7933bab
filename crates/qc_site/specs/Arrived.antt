-- What has joined a site's log, in the order of arrival, is what it knows.
use Rattle.std.specs.Prelude.{List}
use Rattle.qc_list.specs.Vocabulary.{In}
use Rattle.qc_entry.specs.declared.line.Line.{Line}
use Rattle.qc_site.specs.Site.{SiteState, known as known_lines}

pub record HasArrived (s : SiteState) : Type 0 where
  pub known : (l : Line) → In l s.arrived → In l (known_lines s)
  pub all : (l : Line) → In l (known_lines s) → In l s.arrived
