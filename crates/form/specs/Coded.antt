-- The code's form as the definitions' one, and what fits a word.
-- Assumes nothing.
use Rattle.std.specs.Prelude.{ℕ}
use Rattle.defs.specs.Forms as forms
use Rattle.form.specs.declared.Form.{Form}
use Rattle.form.specs.declared.Form.TheVariants.{Sgr1, Sgr2}

unfoldable pub form_is : Form → forms.Form
form_is Sgr1 = forms.sgr1
form_is Sgr2 = forms.sgr2

-- a number fits a word when it is below this
unfoldable pub word_limit : forms.Form → ℕ
word_limit forms.sgr1 = 65536
word_limit forms.sgr2 = 4294967296
