-- Theorems on what specs/EntryLaws defines. They stand here, as a wrong definition there is to be refused and not to be unread.
-- Assumes nothing.
use Rattle.std.specs.Prelude.{◌≡◌, ℕ}
use Rattle.std.proofs.Common.{sym, ◌∙◌}
use Rattle.layout.specs.LayoutLaws.{Kinded}
use Rattle.entry.specs.Entry.{code_verdict}
use Rattle.entry.specs.EntryLaws.{coded}
use Rattle.refusal.specs.Verdicts.{Verdict, accepted}

pub code_judged : {code s : ℕ} {v : Verdict} → v ≡ code_verdict code s → v ≡ accepted → Kinded code s
code_judged {code} {s} e h = coded code s (sym e ∙ h)
