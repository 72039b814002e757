-- `TextLaws`: numbers as text, and the bounds of a line of output. `LineLaws`: the form of a line and the bytes kept of it. `StreamLaws`: an
-- input in parts. `Example`: that of 01.
mod TextLaws
mod LineLaws
mod StreamLaws
mod Example
