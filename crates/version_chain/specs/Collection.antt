-- What a collection leaves of a vertex's versions (Weaver, PVLDB 9(11) 2016).
use Rattle.std.specs.Prelude.{ℕ, ◌+◌, pred, List, drop}
use Rattle.vector_stamp.specs.declared.clock.Clock.{Clock}
use Rattle.vector_stamp.specs.Order.{is_before}
use Rattle.vector_stamp.specs.Seeing.{last_place}
use Rattle.version_chain.specs.declared.version.Version.{Version}
use Rattle.version_chain.specs.Chains.{ChainView}

-- how many of these versions are older than the newest one whose clock is before the bound; 0 if there is no such
-- version
abbrev pub older_versions : Clock → List Version → ℕ
older_versions bound versions = pred (last_place (λ (version : Version). is_before version.stamp.clock bound) versions)

-- the chain without those older versions: the newest one before the bound and all later ones are kept
abbrev pub collected_chain : Clock → ChainView → ChainView
collected_chain bound chain = record {
  dropped = chain.dropped + older_versions bound chain.kept;
  kept = drop (older_versions bound chain.kept) chain.kept;
}
