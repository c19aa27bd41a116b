mod PrintedWords
mod PrintedLines
mod Rows
mod Lengths
mod MadeLines
mod MadeScripts
