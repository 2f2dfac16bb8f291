-- `Listed` says what list stands for an image whose first line is known, `Lines` how the lines follow one another, `Filling` how a buffer is
-- filled, and `Report` what is read and reported of an input.
mod Lines
mod Listed
mod Filling
mod Report
