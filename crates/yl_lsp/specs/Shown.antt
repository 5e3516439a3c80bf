-- Bridge: diagnostics and publications, as the meaning of messages has them.
use Rattle.std.specs.Prelude.{List, []}
use Rattle.std.specs.Option.{option_map}
use Rattle.yl_lsp.specs.declared.diagnostic.Diagnostic.{Diagnostic}
use Rattle.yl_lsp.specs.declared.publication.Content.{Content}
use Rattle.yl_lsp.specs.declared.publication.Content.TheVariants as content
use Rattle.yl_lsp.specs.declared.publication.Publication.{Publication}
use Rattle.yl_lsp.specs.Diagnostics.{DiagnosticValue}
use Rattle.yl_lsp.specs.Messages.{PublicationValue}
use Rattle.yl_lsp.specs.Reports.{report_diagnostics, lost_diagnostics}

abbrev pub diagnostic_value : Diagnostic → DiagnosticValue
diagnostic_value d = record { range = d.range; severity = d.severity; code = d.code; message = d.message.now }

abbrev pub content_diagnostics : {S A : Type 0} → Content S A → List DiagnosticValue
content_diagnostics (content.Problems r) = report_diagnostics r
content_diagnostics (content.Lost why) = lost_diagnostics why.now
content_diagnostics content.Nothing = []

abbrev pub publication_value : {S A : Type 0} → Publication S A → PublicationValue
publication_value p = record { uri = p.uri.now; version = option_map (λ t. t.now) p.version; diagnostics = content_diagnostics p.content }
